-- What holds of each member holds of those that are looked up; reading under a map.
use Rattle.std.proofs.Common.{◌≡◌, ℕ, Bool, true, false, cond, List, [], ◌∷◌, ◌++◌, map, Option, Some, Result, Ok, Err, refl, ap, ◌∙◌, subst}
use Rattle.std.specs.Prelude.{bytes_eq}
use Rattle.std.specs.List.{AllByRecursion}
use Rattle.json_value.specs.declared.fault.LookupFault.{LookupFault}
use Rattle.json_value.specs.Members.{named, only, there, find, need}
use Rattle.json_value.specs.Readers.{Counting, ◌>>=◌, give, pure, with_fault, gather}
use Rattle.json_value.proofs.Yields.{IfThere}

-- what is given with other faults was given
pub given : {E F A : Type 0} (f : E → F) (r : Result A E) (x : A) → with_fault f r ≡ Ok x → r ≡ Ok x
given f (Ok y) x h = let k : y ≡ x = cc in ap (λ z. Ok z) k
given f (Err e) x h = absurd cc

there_is : {V : Type 0} (r : Result (Option V) LookupFault) (v : V) → there r ≡ Ok v → r ≡ Ok (Some v)
there_is (Ok (Some w)) v h = cc
there_is r v h = absurd cc

-- ---- what holds of members

module _ {V : Type 0} (P : V → Type 0) where
  named_part : (name : List ℕ) (ms : List (List ℕ × V)) → AllByRecursion (λ m. P m.1) ms → AllByRecursion P (named name ms)
  unfolding named
  named_part name [] h = tt
  named_part name (m ∷ ms) h = on (bytes_eq m.0 name) (named_part name ms h.1)
    where
      on : (b : Bool) → AllByRecursion P (named name ms) → AllByRecursion P (cond b (m.1 ∷ named name ms) (named name ms))
      on true k = (h.0, k)
      on false k = k

  only_part : (vs : List V) (o : Option V) → only vs ≡ Ok o → AllByRecursion P vs → IfThere P o
  only_part [] (Some v) e h = absurd cc
  only_part (w ∷ []) (Some v) e h = let k : w ≡ v = cc in subst P k h.0
  only_part (w ∷ x ∷ vs) o e h = absurd cc
  only_part vs o e h = tt

  pub find_part : (name : List ℕ) (ms : List (List ℕ × V)) (o : Option V) → find name ms ≡ Ok o → AllByRecursion (λ m. P m.1) ms → IfThere P o
  find_part name ms o e h = only_part (named name ms) o e (named_part name ms h)

  pub need_part : (name : List ℕ) (ms : List (List ℕ × V)) (v : V) → need name ms ≡ Ok v → AllByRecursion (λ m. P m.1) ms → P v
  need_part name ms v e h = find_part name ms (Some v) (there_is (find name ms) v e) h

-- ---- reading under a map

pub gather_map : {C E A B D : Type 0} (read : B → Counting C E (List D)) (g : A → B) (vs : List A) → gather read (map g vs) ≡ gather (λ v. read (g v)) vs
unfolding gather
gather_map read g [] = refl
gather_map {C = C} {E = E} {D = D} read g (v ∷ vs) = ap (λ (more : Counting C E (List D)). read (g v) >>= λ x. more >>= λ xs. give (x ++ xs)) (gather_map read g vs)

abbrev pub result_map : {E V W : Type 0} → (V → W) → Result V E → Result W E
result_map h (Ok v) = Ok (h v)
result_map h (Err e) = Err e

there_map : {V W : Type 0} (h : V → W) (vs : List V) → there (only (map h vs)) ≡ result_map h (there (only vs))
there_map h [] = refl
there_map h (v ∷ []) = refl
there_map h (v ∷ w ∷ vs) = refl

module _ {V W : Type 0} (h : V → W) (g : List ℕ × V → List ℕ × W) (same : (m : List ℕ × V) → g m ≡ (m.0, h m.1)) where
  named_map : (name : List ℕ) (ms : List (List ℕ × V)) → named name (map g ms) ≡ map h (named name ms)
  unfolding named
  named_map name [] = refl
  named_map name (m ∷ ms) = rw (same m, named_map name ms) (on (bytes_eq m.0 name))
    where
      on : (b : Bool) → cond b (h m.1 ∷ map h (named name ms)) (map h (named name ms)) ≡ map h (cond b (m.1 ∷ named name ms) (named name ms))
      on true = refl
      on false = refl

  pub need_map : (name : List ℕ) (ms : List (List ℕ × V)) → need name (map g ms) ≡ result_map h (need name ms)
  need_map name ms = ap (λ z. there (only z)) (named_map name ms) ∙ there_map h (named name ms)

-- what is read of a value that was mapped and whose fault was replaced
pub pure_map : {C E F V W B : Type 0} (f : E → F) (h : V → W) (read : W → Counting C F B) (r : Result V E) → (pure (with_fault f (result_map h r)) >>= read) ≡ (pure (with_fault f r) >>= λ v. read (h v))
pure_map f h read (Ok v) = refl
pure_map f h read (Err e) = refl
