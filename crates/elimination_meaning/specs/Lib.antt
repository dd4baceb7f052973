pub mod Elimination
pub mod Laws
pub mod Rising
pub mod Sublists
pub mod Weights
