pub use Rattle.owned_values.specs.Commas
pub use Rattle.byte_ends.specs.Ends
pub use Rattle.byte_ends.specs.Writes
pub use Rattle.decimal_text.specs.Grammar as NumberGrammar
pub use Rattle.decimal_text.specs.Scaling
pub use Rattle.decimal_text.specs.Units
pub use Rattle.json_value.specs.Depth
pub use Rattle.json_value.specs.Grammar
pub use Rattle.json_value.specs.Kinds
pub use Rattle.json_value.specs.Numbers
pub use Rattle.json_value.specs.Reading
pub use Rattle.json_value.specs.Text
pub use Rattle.json_reading.specs.Outcome
pub mod Readable
