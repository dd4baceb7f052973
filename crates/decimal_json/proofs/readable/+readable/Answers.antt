use Rattle.std.proofs.Common.{arith, refl, subst}
use Rattle.std.proofs.lemmas.List.{take_all}
use Rattle.std.specs.List.{AllByRecursion}
use Rattle.owned_values.proofs.Prefixes.{all_more}
use Rattle.decimal_json.specs.Readable.{IsReadable, IsReadableMember}
use Rattle.decimal_json.proofs.ReadableParts as r
use Rattle.decimal_json.proofs.readable.+readable.Goals as goal

-- ---- a value

pub is_readable-returns-in-Null : goal.is_readable-returns-in-Null
is_readable-returns-in-Null t c = λ _. rw c.in-Null.is (r.null_readable c.args.deepest)

pub is_readable-returns-in-Bool : goal.is_readable-returns-in-Bool
is_readable-returns-in-Bool t c = λ _. rw c.in-Bool.is (r.bool_readable c.args.deepest _)

pub is_readable-returns-in-Number : goal.is_readable-returns-in-Number
is_readable-returns-in-Number t c = λ _. rw c.in-Number.is (r.number_readable c.args.deepest c.in-Number.number c.as_bytes-text.ensures.number)

pub is_readable-returns-in-Text : goal.is_readable-returns-in-Text
is_readable-returns-in-Text t c = λ _. rw c.in-Text.is (r.text_readable c.args.deepest c.in-Text.text c.as_str-text.ensures.utf8)

pub is_readable-returns-then-deepest-gt0 : goal.is_readable-returns-then-deepest-gt0
is_readable-returns-then-deepest-gt0 t c = λ yes.
    rw c.in-Array.is (r.array_readable c.args.deepest (omega (arith, c.if-deepest-gt0.true)) c.in-Array.elements (rw c.as_slice.ensures at (c.are_readable.ensures yes)))

pub is_readable-returns-then-deepest-gt0-2 : goal.is_readable-returns-then-deepest-gt0-2
is_readable-returns-then-deepest-gt0-2 t c = λ yes.
    rw c.in-Object.is (r.object_readable c.args.deepest (omega (arith, c.if-deepest-gt0-2.true)) c.in-Object.members (rw c.as_slice-then-deepest-gt0-2.ensures at (c.have_readable.ensures yes)))

-- ---- elements

pub are_readable-elements-preserved : goal.are_readable-elements-preserved
are_readable-elements-preserved t c =
    all_more (IsReadable c.args.deepest) c.args.elements.now c.elements.element-index _ c.elements-test.true c.element-item.is c.elements.invariant (c.if-not-is_readable.ensures refl)

pub are_readable-returns : goal.are_readable-returns
are_readable-returns t c = λ _.
    subst (AllByRecursion (IsReadable c.args.deepest)) (take_all c.elements.element-index c.args.elements.now c.elements-test.false) c.elements.invariant

-- ---- members

pub have_readable-members-preserved : goal.have_readable-members-preserved
have_readable-members-preserved t c =
    all_more (IsReadableMember c.args.deepest) c.args.members.now c.members.member-index _ c.members-test.true c.member-item.is c.members.invariant (c.as_str-name.ensures.utf8, c.if-not-is_readable.ensures refl)

pub have_readable-returns : goal.have_readable-returns
have_readable-returns t c = λ _.
    subst (AllByRecursion (IsReadableMember c.args.deepest)) (take_all c.members.member-index c.args.members.now c.members-test.false) c.members.invariant
