pub mod BytesDecided
pub mod BytesReached
pub mod LayersDecided
mod LayersReached
pub mod NamesFound
mod NamesMet
pub mod SourcesRead
