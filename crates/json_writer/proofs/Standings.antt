-- Steps of a text that is written.
use Rattle.std.proofs.Common.{◌≡◌, List, ℕ, [], ◌++◌, append-nil, append_assoc, sym, ap, ◌∙◌}
use Rattle.byte_ends.specs.Continues.{Continues, Progress}
use Rattle.byte_ends.specs.Ends.{Drained}
use Rattle.byte_ends.specs.Writes.{Writes}
use Rattle.byte_ends.proofs.Parts.{as_text, then, whole}
use Rattle.json_writer.specs.Standing.{Stands, Start}

module _ (start : Start) (name : ℕ) (now : Drained) (so_far : Progress) (held text : List ℕ) (h : Stands start name now so_far held text) where
  pub writes_held : (new : Drained) (result : Progress) (none : List ℕ) → none ≡ [] → Continues now new so_far held result → Stands start name new result none text
  writes_held new result none e w = record { same = h.same; written = h.written ++ held; wrote = then h.wrote w; whole = h.whole ∙ rw e (sym (append-nil (h.written ++ held))) }

  pub holds : (more bytes longer : List ℕ) → more ≡ held ++ bytes → longer ≡ text ++ bytes → Stands start name now so_far more longer
  holds more bytes longer e f = record { same = h.same; written = h.written; wrote = h.wrote; whole = f ∙ ap (λ t. t ++ bytes) h.whole ∙ append_assoc h.written held bytes ∙ ap (λ t. h.written ++ t) (sym e) }

  pub puts : (new : Drained) (result : Progress) (bytes longer : List ℕ) → held ≡ [] → Continues now new so_far bytes result → longer ≡ text ++ bytes → Stands start name new result held longer
  puts new result bytes longer e w f = record {
    same = h.same;
    written = h.written ++ bytes;
    wrote = then h.wrote w;
    whole = f ∙ ap (λ t. t ++ bytes) (h.whole ∙ ap (λ t. h.written ++ t) e ∙ append-nil h.written) ∙ sym (ap (λ t. (h.written ++ bytes) ++ t) e ∙ append-nil (h.written ++ bytes));
  }

  pub ends : (new : Drained) (result : Progress) → Continues now new so_far held result → Writes start.sink new 0 text result
  ends new result w = whole (as_text h.whole (then h.wrote w))

pub ruleset standings = (writes_held, holds, puts, ends)
