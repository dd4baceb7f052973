-- A value that UTF-8 bytes spell is well formed: its texts and names are UTF-8 too.
use Rattle.std.proofs.Common.{ℕ, inl, inr, List, [], ◌++◌, refl, subst}
use Rattle.std.specs.Prelude.{IsUtf8}
use Rattle.std.proofs.lemmas.Str.{IsUtf8-past_char}
use Rattle.std.proofs.Math.Utf8.{encode}
use Rattle.decimal_text.proofs.NumberBytes.{number_utf8}
use Rattle.json_value.specs.declared.json.Json.{Json}
use Rattle.json_value.specs.Grammar.{SpellsText, Reads, mark}
use Rattle.json_value.specs.WellFormed.{HasTexts, IsWellFormed}
use Rattle.json_value.proofs.Inherits.{utf8_inherits}
use Rattle.json_value.proofs.Spelled.{after_space, before_space, spelled_has}
use Rattle.json_value.proofs.SpelledNumbers.{reads_numbers}
use Rattle.json_value.proofs.Utf8.{ascii_split, text_utf8}

document_texts : (d : ℕ) (b : List ℕ) (v : Json) → IsUtf8 b → SpellsText d b v → HasTexts v
document_texts d b v f r =
    let t = r.1 in let u = r.2 in
    let here : IsUtf8 t = after_space (λ z. IsUtf8 z) ascii_split r.0 t r.3 (before_space (λ z. IsUtf8 z) ascii_split (r.0 ++ t) u r.5 (subst (λ z. IsUtf8 z) r.6 f)) in
    (spelled_has (λ z. IsUtf8 z) ascii_split utf8_inherits (λ t n. number_utf8 n) text_utf8 r.4 here).texts

unmark : (rest : List ℕ) → IsUtf8 (mark ++ rest) → IsUtf8 rest
unmark rest h = unfold encode in IsUtf8-past_char (mark ++ rest) rest 0xFEFF h refl

reads_texts : (d : ℕ) (b : List ℕ) (v : Json) → IsUtf8 b → Reads d b v → HasTexts v
reads_texts d b v f (inl r) = document_texts d b v f r
reads_texts d b v f (inr r) = document_texts d r.0 v (unmark r.0 (subst (λ z. IsUtf8 z) r.1 f)) r.2

pub reads_well_formed : (d : ℕ) (b : List ℕ) (v : Json) → IsUtf8 b → Reads d b v → IsWellFormed v
reads_well_formed d b v utf8 reads = record { numbers = reads_numbers d b v reads; texts = reads_texts d b v utf8 reads }
