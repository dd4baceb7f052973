pub mod CheckedWords
pub mod Ending
mod FoundFirst
pub mod PrefixValues
pub mod LaneParts
pub mod ListLoop
pub mod ListsFound
pub mod ListsRead
pub mod NumbersFound
pub mod NumbersRead
pub mod Opened
pub mod Passed
pub mod PlainStrings
mod SimpleLanes
pub mod SpellsList
pub mod Steps
pub mod StringLoop
pub mod StringsFound
pub mod StringsRead
pub mod Texts
pub mod TextsFound
pub mod TextsRead
pub mod ValuesFound
pub mod ValuesRead
pub mod Words
