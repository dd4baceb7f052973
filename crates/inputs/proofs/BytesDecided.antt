-- The bytes of a source have one outcome.
use Rattle.std.proofs.Common.{◌≡◌, ℕ, ◌<◌, ◌≤◌, List, length, ◌∙◌, ap, sym, subst, refl, inl, inr, Option, Some, Result, Ok, Err, arith}
use Rattle.std.specs.Prelude.{IfSome}
use Rattle.byte_ends.specs.Ends.{Fed}
use Rattle.json_reading.specs.declared.fault.JsonFault.{JsonFault}
use Rattle.json_reading.specs.declared.fault.JsonFault.TheVariants as text
use Rattle.json_reading.proofs.TextsFound.{one_value}
use Rattle.json_value.specs.declared.json.Json.{Json}
use Rattle.inputs.specs.Texts.{max_input, IsRead, IsTextOf, BytesHaveOutcome, plain_text_fault}

-- the answer without the place and the reason in a malformed text
abbrev pub plain_text : Result Json JsonFault → Result Json JsonFault
plain_text (Ok v) = Ok v
plain_text (Err f) = Err (plain_text_fault f)

-- bytes are one text, or no text for one reason
pub one_text : (deepest : ℕ) (b : List ℕ) (t u : Result Json JsonFault) → IsTextOf deepest b t → IsTextOf deepest b u → plain_text t ≡ plain_text u
one_text deepest b (Ok v) (Ok w) h k = ap (λ z. Ok z) (one_value deepest deepest b v w h.1 k.1)
one_text deepest b (Ok v) (Err (text.NotUtf8 at)) h k = absurd (k.0 h.0)
one_text deepest b (Ok v) (Err (text.Malformed at why)) h k = absurd (k.1 v h.1)
one_text deepest b (Ok v) (Err text.Memory) h k = absurd k
one_text deepest b (Err (text.NotUtf8 at)) (Ok w) h k = absurd (h.0 k.0)
one_text deepest b (Err (text.NotUtf8 at)) (Err (text.NotUtf8 other)) h k = ap (λ n. Err (text.NotUtf8 n)) (h.1 ∙ sym k.1)
one_text deepest b (Err (text.NotUtf8 at)) (Err (text.Malformed other why)) h k = absurd (h.0 k.0)
one_text deepest b (Err (text.NotUtf8 at)) (Err text.Memory) h k = absurd k
one_text deepest b (Err (text.Malformed at why)) (Ok w) h k = absurd (h.1 w k.1)
one_text deepest b (Err (text.Malformed at why)) (Err (text.NotUtf8 other)) h k = absurd (k.0 h.0)
one_text deepest b (Err (text.Malformed at why)) (Err (text.Malformed other how)) h k = refl
one_text deepest b (Err (text.Malformed at why)) (Err text.Memory) h k = absurd k
one_text deepest b (Err text.Memory) u h k = absurd h

-- two outcomes of the same bytes are the same, as far as faults are reported
pub one_outcome : {A E : Type 0} (deepest : ℕ) (too_long : E) (of_text : Result Json JsonFault → Result A E) (plain : Result A E → Result A E)
    → ((t : Result Json JsonFault) → plain (of_text t) ≡ plain (of_text (plain_text t)))
    → (b : List ℕ) (x y : Result A E) → BytesHaveOutcome deepest too_long of_text b x → BytesHaveOutcome deepest too_long of_text b y → plain x ≡ plain y
one_outcome deepest too_long of_text plain same b x y (inl h) (inl k) = ap plain (h.1 ∙ sym k.1)
one_outcome deepest too_long of_text plain same b x y (inl h) (inr k) = let long : max_input < length b = h.0 in let short : length b ≤ max_input = k.0 in absurd (omega arith)
one_outcome deepest too_long of_text plain same b x y (inr h) (inl k) = let short : length b ≤ max_input = h.0 in let long : max_input < length b = k.0 in absurd (omega arith)
one_outcome deepest too_long of_text plain same b x y (inr h) (inr k) =
    ap plain h.3 ∙ same h.1 ∙ ap (λ z. plain (of_text z)) (one_text deepest b h.1 k.1 h.2 k.2) ∙ sym (same k.1) ∙ sym (ap plain k.3)

-- what was read is what the source had left
pub same_bytes : (left : Option (List ℕ)) (b bytes : List ℕ) → left ≡ Some b → IfSome left (λ l. bytes ≡ l) → bytes ≡ b
same_bytes left b bytes e h = subst (λ z. IfSome z (λ l. bytes ≡ l)) e h

-- what the text of a source that was read decides
pub text_comes : {A E : Type 0} (deepest : ℕ) (too_long : E) (of_text : Result Json JsonFault → Result A E) (old new : Fed) (b bytes : List ℕ) (t : Result Json JsonFault)
    → old.left ≡ Some b → IsRead old new bytes → IsTextOf deepest bytes t → BytesHaveOutcome deepest too_long of_text b (of_text t)
text_comes deepest too_long of_text old new b bytes t e read is =
    subst (λ z. BytesHaveOutcome deepest too_long of_text z (of_text t)) (same_bytes old.left b bytes e read.all) (inr (read.short, t, is, refl))
