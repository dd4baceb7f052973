use Rattle.std.proofs.Common.{◌≡◌, take}
use Rattle.json_value.proofs.+copying.Given as goal

abbrev pub invariant-copying::copy_elements-elements : goal.invariant-copying::copy_elements-elements
invariant-copying::copy_elements-elements l = l.copied.items ≡ take l.element-index l.elements

abbrev pub invariant-copying::copy_members-members : goal.invariant-copying::copy_members-members
invariant-copying::copy_members-members l = l.copied.items ≡ take l.member-index l.members
