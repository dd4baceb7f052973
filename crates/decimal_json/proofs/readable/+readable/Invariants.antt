use Rattle.std.proofs.Common.{take}
use Rattle.std.specs.List.{AllByRecursion}
use Rattle.decimal_json.specs.Readable.{IsReadable, IsReadableMember}
use Rattle.decimal_json.proofs.readable.+readable.Given as goal

abbrev pub invariant-are_readable-elements : goal.invariant-are_readable-elements
invariant-are_readable-elements l = AllByRecursion (IsReadable l.deepest) (take l.element-index l.elements)

abbrev pub invariant-have_readable-members : goal.invariant-have_readable-members
invariant-have_readable-members l = AllByRecursion (IsReadableMember l.deepest) (take l.member-index l.members)
