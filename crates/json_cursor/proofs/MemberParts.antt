-- The parts of a member, and members one turn after another.
use Rattle.std.proofs.Common.{◌≡◌, ℕ, ◌+◌, ◌-◌, ◌<◌, ◌≤◌, List, [], ◌∷◌, ◌++◌, Option, Some, None, refl, sym, arith}
use Rattle.std.specs.Str.{is_utf8}
use Rattle.json_value.specs.Reading.{◌>>=◌, skip, after_word, list_at, member_at, name_at, string_at}
use Rattle.json_reading.specs.declared.fault.Fault.{Fault}
use Rattle.json_reading.specs.declared.fault.Fault.TheVariants as fault
use Rattle.json_reading.specs.Gives.{Fails, IsMalformed}
use Rattle.json_reading.proofs.ListLoop as turns
use Rattle.json_reading.proofs.StringLoop.{with_prefix}
use Rattle.json_cursor.specs.Arrays.{prefix_value}
use Rattle.json_cursor.specs.Members.{Made, Members, TakesMember, TakesMembers, prefix_member}
use Rattle.json_cursor.proofs.Openings.{first_byte}

-- ---- a member's name

-- nothing is read, and the text is malformed
pub malformed : {A : Type 0} (f : Fault) (read : Option A) → IsMalformed f → read ≡ None → Fails f read
malformed (fault.Malformed why left) read is none = none
malformed fault.Memory read is none = tt

pub no_quote : (bytes : List ℕ) → None ≡ after_word (34 ∷ []) bytes → (d : ℕ) → prefix_member d bytes ≡ None
unfolding member_at name_at
no_quote bytes h d = rw (sym h) refl

module _ (bytes inside : List ℕ) (opens : Some inside ≡ after_word (34 ∷ []) bytes) where
  pub no_name : (f : Fault) → Fails f (string_at is_utf8 inside) → (d : ℕ) → Fails f (prefix_member d bytes)
  unfolding member_at name_at
  no_name (fault.Malformed why left) h d = rw (sym opens, h) refl
  no_name fault.Memory h d = tt

  module _ (name name_end : List ℕ) (named : string_at is_utf8 inside ≡ Some (name, name_end)) where
    pub no_colon : None ≡ after_word (58 ∷ []) (skip name_end) → (d : ℕ) → prefix_member d bytes ≡ None
    unfolding member_at name_at
    no_colon h d = rw (sym opens, named, sym h) refl

    pub is_named : (following : List ℕ) → Some following ≡ after_word (58 ∷ []) (skip name_end) → (d : ℕ)
        → prefix_member d bytes ≡ (prefix_value d (skip following) >>= λ v. Some ((name, v.0), v.1))
    unfolding member_at name_at
    is_named following h d = rw (sym opens, named, sym h) refl

-- ---- the loop

module _ {S : Type 0} (Holds : Made S) (d n : ℕ) (total : Option (Members × List ℕ)) (start : S) where
  -- what was made of these members, and how more of them go on
  pub record MembersSoFar (i : ℕ) (rest : List ℕ) (now : S) : Type 0 where
    pub members : Members
    pub so_far : with_prefix members (list_at 125 (prefix_member d) (n - i) rest) ≡ total
    pub holds : Holds [] start → Holds members now

  module _ (i : ℕ) (rest : List ℕ) (now : S) (s : MembersSoFar i rest now) where
    pub turns_over : n ≤ i → total ≡ None
    turns_over le = turns.turns_over _ 125 (prefix_member d) s.members n i rest total s.so_far le

    module _ (lt : i < n) where
      pub no_member : (f : Fault) → Fails f (prefix_member d (skip rest)) → Fails f total
      no_member f h = turns.fails _ 125 (prefix_member d) s.members n i rest total s.so_far f lt h

      module _ (next : S) (after : List ℕ) (t : TakesMember Holds d now next (skip rest) after) where
        pub ends : (end : List ℕ) → Some end ≡ after_word (125 ∷ []) (skip after) → TakesMembers Holds total start next end
        ends end h = record {
          members = s.members ++ t.member ∷ [];
          prefix = turns.at_end _ 125 (prefix_member d) s.members n i rest total s.so_far t.member after lt t.prefix 125 end (first_byte 125 (skip after) end h) (omega arith) refl;
          holds = λ k. t.holds s.members (s.holds k);
        }

        pub goes_on : (more : List ℕ) → Some more ≡ after_word (44 ∷ []) (skip after) → MembersSoFar (i + 1) more next
        goes_on more h = record {
          members = s.members ++ t.member ∷ [];
          so_far = turns.at_comma _ 125 (prefix_member d) s.members n i rest total s.so_far t.member after lt t.prefix 44 more (first_byte 44 (skip after) more h) refl;
          holds = λ k. t.holds s.members (s.holds k);
        }

        breaks_at : (mark : List ℕ) → skip after ≡ mark → None ≡ after_word (125 ∷ []) mark → None ≡ after_word (44 ∷ []) mark → total ≡ None
        unfolding after_word
        breaks_at [] is close comma = turns.at_nothing _ 125 (prefix_member d) s.members n i rest total s.so_far t.member after lt t.prefix is
        breaks_at (b ∷ more) is close comma =
            turns.at_other _ 125 (prefix_member d) s.members n i rest total s.so_far t.member after lt t.prefix b more is (λ e. let wrong = rw e at close in absurd cc) (λ e. let wrong = rw e at comma in absurd cc)

        pub breaks : None ≡ after_word (125 ∷ []) (skip after) → None ≡ after_word (44 ∷ []) (skip after) → total ≡ None
        breaks close comma = breaks_at (skip after) refl close comma
