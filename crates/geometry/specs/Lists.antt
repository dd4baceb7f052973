-- Words of lists and options, passed on.
pub use Rattle.owned_values.specs.Lists.{map_some, then_some, with_some, some_of, unless_empty, joined, tail, all_but_last_of, all_but_last, interior, is_some_list, In, AreDistinct, AreDistinct as Apart}
