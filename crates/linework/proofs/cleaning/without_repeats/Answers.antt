use Rattle.std.proofs.Common.{◌∙◌}
use Rattle.std.proofs.lemmas.List.Filters.{dedup_is}
use Rattle.geometry.specs.Rings.{same}
use Rattle.linework.proofs.Deduped.{dedup_is_clean}
use Rattle.linework.proofs.cleaning.without_repeats.Goals as goal

pub returns : goal.returns
returns c = unfold same in dedup_is _ _ _ c.dedup.ensures.filtered ∙ dedup_is_clean c.args.positions.items
