pub mod CallLists
pub mod CappedShares
pub mod ChainLaws
pub mod Counts
pub mod EndWeights
pub mod Gathered
pub mod HeapLaws
pub mod Heaps
pub mod KeptWeights
pub mod LinkLaws
pub mod LinkedCorners
pub mod Products
pub mod Queues
pub mod Scan
pub mod ShareLaws
pub mod ShareNumbers
mod ShareRows
mod ShareTextExamples
pub mod Stopped
pub mod ThresholdAreas
mod ThresholdExamples
pub mod Turns
pub mod Weighed
