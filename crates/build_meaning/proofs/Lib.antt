pub mod DroppableLines
pub mod Decoding
pub mod Linework
pub mod Names
pub mod Once
pub mod Renumbered
mod BuiltRows
pub mod LinesAndRings
pub mod Trimmed
pub mod ValidEnds
pub mod ValidIndexes
pub mod ValidPositions
pub mod ValidShapes
pub mod ValidTrimmed
pub mod ValidUntrimmed
pub mod Whole
pub mod Again
pub mod Assembled
mod AssembledRows
pub mod BuiltCells
pub mod Celled
pub mod CelledDecoding
mod GridRows
pub mod Reduced
pub mod Greatest
pub mod Spread
mod LeftRows
pub mod Left
pub mod Simplified
pub mod Made
pub mod Marks
pub mod Objects
pub mod OnGrid
pub mod LeftOf
pub mod ProtectedRings
mod ProtectedRows
pub mod Replaced
pub mod Reshaped
pub mod RingKept
mod SimplifiedRows
pub mod Snapped
mod SnappedRows
pub mod Spared
pub mod ValidSimplified
pub mod ValidCelled
pub mod ValidRetained
pub mod ValidPruned
pub mod GreatestLeft
pub mod MarkedRing
pub mod MarksLeft
pub mod UnguardedBuilt
mod LayersLeftRows
pub mod RingsAlike
pub mod ShapesLeft
pub mod SparedAlike
pub mod SparedTwice
pub mod AtFirst
pub mod InTurn
