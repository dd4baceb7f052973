mod Examples
pub mod Agreement
pub mod Areas
pub mod ByKind
pub mod Cases
pub mod Composition
pub mod Induction
pub mod Moved
pub mod MovedShapes
pub mod Omitted
pub mod Points
pub mod Products
pub mod RingAreas
