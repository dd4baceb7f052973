-- What holds of all that a reader gives, and of lists.

pub use Rattle.json_value.proofs.Yields.{Yields, IfThere, all_trivial, weaker_yields, then_yields, give_yields, count_yields, fail_yields, pure_then, if_yields, there_weaker, if_some_yields, each_yields, kept_of_yields, kept_yields, or_fail_is}
