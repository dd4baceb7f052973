-- Which names of layers are refused.
use Rattle.std.specs.Prelude.{◌≡◌, ℕ, Bool, false, ◌||◌, Result, Ok, Err, List, [], ◌∷◌, ◌++◌, length, Option, Some, None, bytes_eq, if◌then◌else◌}
use Rattle.std.specs.Borrow.{Bor}
use Rattle.std.specs.BTreeSet.{BTreeSet, contains}
use Rattle.std.specs.Cmp.Lexicographic.{slice_cmp}
use Rattle.std.specs.Ordering.{nat_cmp}
use Rattle.std.specs.declared.cmp.Ordering.{Ordering}
use Rattle.inputs.specs.declared.fault.BuildFault.{BuildFault}
use Rattle.inputs.specs.declared.fault.BuildFault.TheVariants.{EmptyName, DuplicateName}

-- one of the names is this one
abbrev pub is_among : List ℕ → List (List ℕ) → Bool
is_among name [] = false
is_among name (other ∷ others) = bytes_eq other name || is_among name others

-- the fault of this name after those before it
abbrev pub fault_of_name : List (List ℕ) → List ℕ → Option BuildFault
fault_of_name before [] = Some (EmptyName (length before))
fault_of_name before (c ∷ cs) = if is_among (c ∷ cs) before then Some (DuplicateName (length before)) else None

-- it, or else the other
abbrev pub or_else : {A : Type 0} → Option A → Option A → Option A
or_else None other = other
or_else (Some x) other = Some x

-- the first fault of the names from here on, where these stand before
unfoldable pub name_fault_after : List (List ℕ) → List (List ℕ) → Option BuildFault
name_fault_after before [] = None
name_fault_after before (name ∷ names) = or_else (fault_of_name before name) (name_fault_after (before ++ name ∷ []) names)

-- the first of the names that is empty or stands before already
abbrev pub name_fault : List (List ℕ) → Option BuildFault
name_fault names = name_fault_after [] names

-- the answer is the fault, or there is none
abbrev pub IsRefusedFor : Option BuildFault → Result (Unit {0}) BuildFault → Type 0
IsRefusedFor None r = r ≡ Ok tt
IsRefusedFor (Some e) r = r ≡ Err e

-- the order by which a set of texts finds one
abbrev pub order : Bor (List ℕ) → Bor (List ℕ) → Ordering
order a b = slice_cmp nat_cmp a.now b.now

-- the set, if there is one, has these names
abbrev pub Knows : Option (BTreeSet (Bor (List ℕ))) → List (List ℕ) → Type 0
Knows None names = Unit {0}
Knows (Some set) names = (q : Bor (List ℕ)) → contains order set q ≡ is_among q.now names
