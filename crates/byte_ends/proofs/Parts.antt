-- A text that is written part by part.
use Rattle.std.proofs.Common.{◌≡◌, ℕ, List, ◌++◌, subst, sym, Ok, Err}
use Rattle.byte_ends.specs.Continues.{Continues, Progress, goes_on, stays}
use Rattle.byte_ends.specs.Ends.{Drained}
use Rattle.byte_ends.specs.Writes.{Writes}
use Rattle.byte_ends.specs.declared.sink.WriteFault.{WriteFault}
use Rattle.byte_ends.proofs.Writing.{Writes-then, Writes-stop}

-- the text so far is written, or a fault cut it short
pub on_ok : (old new : Drained) (so_far result : Progress) (part : List ℕ) (count : ℕ) → so_far ≡ Ok count → Writes old new count part result → Continues old new so_far part result
on_ok old new so_far result part count is wrote = subst (λ z. Continues old new z part result) (sym is) (goes_on count wrote)

pub on_err : (sink : Drained) (so_far : Progress) (part : List ℕ) (fault : WriteFault) → so_far ≡ Err fault → Continues sink sink so_far part (Err fault)
on_err sink so_far part fault is = subst (λ z. Continues sink sink z part (Err fault)) (sym is) (stays fault)

-- one part and then another
then_writes : (old mid new : Drained) (count : ℕ) (s t : Progress) (xs ys : List ℕ) → Writes old mid count xs s → Continues mid new s ys t → Writes old new count (xs ++ ys) t
then_writes old mid new count s t xs ys w (goes_on m v) = Writes-then old mid new count m xs ys t w v
then_writes old mid new count s t xs ys w (stays e) = Writes-stop old mid count xs ys e w

pub then : {old mid new : Drained} {r s t : Progress} {xs ys : List ℕ} → Continues old mid r xs s → Continues mid new s ys t → Continues old new r (xs ++ ys) t
then {old} {mid} {new} {r} {s} {t} {xs} {ys} (goes_on count w) b = goes_on count (then_writes old mid new count s t xs ys w b)
then (stays e) (stays f) = stays e

-- a text that is this one
pub as_text : {old new : Drained} {r s : Progress} {text written : List ℕ} → text ≡ written → Continues old new r written s → Continues old new r text s
as_text {old} {new} {r} {s} is w = subst (λ z. Continues old new r z s) (sym is) w

-- a whole text
pub whole : {old new : Drained} {count : ℕ} {text : List ℕ} {result : Progress} → Continues old new (Ok count) text result → Writes old new count text result
whole (goes_on count w) = w
