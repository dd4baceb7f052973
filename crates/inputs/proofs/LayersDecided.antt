-- The bytes of the layers have one outcome, and what is said of layers that are read, or of why they aren't, gives it.
use Rattle.std.proofs.Common.{⊎_elim, ◌≡◌, ◌⊎◌, ℕ, suc, ◌<◌, Bool, List, [], ◌∷◌, length, ◌∙◌, ap, sym, subst, refl, inl, inr, Some, Result, Ok, Err}
use Rattle.std.specs.Prelude.{IfSome}
use Rattle.byte_ends.specs.Ends.{Fed}
use Rattle.byte_ends.specs.declared.source.ReadFault.TheVariants as read
use Rattle.json_reading.specs.declared.fault.JsonFault.{JsonFault}
use Rattle.json_reading.specs.declared.fault.JsonFault.TheVariants as text
use Rattle.json_value.specs.declared.json.Json.{Json}
use Rattle.geojson_types.specs.declared.counts.Counts.{Counts}
use Rattle.geojson_types.specs.declared.layer.Layer.{Layer}
use Rattle.geojson_types.specs.Features.{Featured}
use Rattle.inputs.specs.declared.fault.BuildFault.{BuildFault}
use Rattle.inputs.specs.declared.fault.BuildFault.TheVariants.{Read, Json as Text, Geo, Memory}
use Rattle.inputs.specs.Texts.{max_input}
use Rattle.inputs.proofs.BytesDecided.{plain_text, one_outcome, text_comes}
use Rattle.inputs.specs.Outcomes.{Texts, LayerOutcome, Outcome, of_layer, of_text, LayerHasOutcome, with_layer, Continues, AllHaveOutcome, HasOutcome, plain_fault, plain_outcome, IsOutsideRead, HaveBytes, FirstHaveBytes}
use Rattle.json_value.specs.Limits.{layer_depth}
use Rattle.inputs.specs.Reading.{FailsToRead}
use Rattle.inputs.specs.Sources.{Sources, Named, IsLayerRead, AllRead, FailsAt}

-- ---- one layer

abbrev plain_layer : LayerOutcome → LayerOutcome
plain_layer (Ok r) = Ok r
plain_layer (Err e) = Err (plain_fault e)

plain-of_text : (n : ℕ) (exact : Bool) (t : Result Json JsonFault) → plain_layer (of_text n exact t) ≡ plain_layer (of_text n exact (plain_text t))
plain-of_text n exact (Ok v) = refl
plain-of_text n exact (Err (text.Malformed at why)) = refl
plain-of_text n exact (Err e) = refl

one_layer : (n : ℕ) (exact : Bool) (b : List ℕ) (x y : LayerOutcome) → LayerHasOutcome n exact b x → LayerHasOutcome n exact b y → plain_layer x ≡ plain_layer y
one_layer n exact b x y h k = one_outcome layer_depth (Read n read.TooLong) (of_text n exact) plain_layer (plain-of_text n exact) b x y h k

-- ---- all layers

plain-with : (name : List ℕ) (l : List Featured × Counts) (o : Outcome) → plain_outcome (with_layer name l o) ≡ with_layer name l (plain_outcome o)
plain-with name l (Ok r) = refl
plain-with name l (Err e) = refl

continued : (name : List ℕ) (x y : LayerOutcome) (others : Outcome → Type 0) (o p : Outcome) → ((q r : Outcome) → others q → others r → plain_outcome q ≡ plain_outcome r) → plain_layer x ≡ plain_layer y
    → Continues name x others o → Continues name y others p → plain_outcome o ≡ plain_outcome p
continued name (Err e) (Err f) others o p once same h k = let g : plain_fault e ≡ plain_fault f = cc in ap plain_outcome h ∙ ap (λ z. Err z) g ∙ sym (ap plain_outcome k)
continued name (Ok l) (Ok m) others o p once same h k =
    let g : l ≡ m = cc in
    ap plain_outcome h.2 ∙ plain-with name l h.0 ∙ ap (λ z. with_layer name z (plain_outcome h.0)) g ∙ ap (with_layer name m) (once h.0 k.0 h.1 k.1) ∙ sym (plain-with name m k.0) ∙ sym (ap plain_outcome k.2)
continued name x y others o p once same h k = absurd cc

all_once : (n : ℕ) (exact : Bool) (bs : Texts) (o p : Outcome) → AllHaveOutcome n exact bs o → AllHaveOutcome n exact bs p → plain_outcome o ≡ plain_outcome p
all_once n exact [] o p h k = ap plain_outcome (h ∙ sym k)
all_once n exact (b ∷ bs) o p h k = continued b.0 h.0 k.0 (AllHaveOutcome (suc n) exact bs) o p (all_once (suc n) exact bs) (one_layer n exact b.1 h.0 k.0 h.1 k.1) h.2 k.2

-- the outcome of the layers in one way is their outcome in the other way
pub once : (exact : Bool) (bs : Texts) (r o : Outcome) → AllHaveOutcome 0 exact bs r → HasOutcome exact bs o → plain_outcome r ≡ plain_outcome o
once exact bs r o all comes = all_once 0 exact bs r o all comes

-- ---- what an answer says of the bytes

layer_comes : (n : ℕ) (exact : Bool) (old new : List ℕ × Fed) (b : List ℕ) (l : List ℕ × Layer) (c : Counts) → old.1.left ≡ Some b → IsLayerRead exact old new l c → LayerHasOutcome n exact b (Ok (l.1.features, c))
layer_comes n exact old new b l c e is =
    subst (LayerHasOutcome n exact b) (ap (of_layer n) is.spells.stands) (text_comes layer_depth (Read n read.TooLong) (of_text n exact) old.1 new.1 b is.bytes (Ok is.spells.value) e is.read (is.spells.utf8, is.spells.spelled))

pub read_comes : (n : ℕ) (exact : Bool) (olds news : Sources) (ls : Named) (cs : List Counts) (bs : Texts) → AllRead exact olds news ls cs → HaveBytes olds bs → AllHaveOutcome n exact bs (Ok (ls, cs))
read_comes n exact [] [] [] [] [] h k = refl
read_comes n exact (s ∷ ss) (t ∷ ts) (l ∷ ls) (c ∷ cs) (b ∷ bs) h k =
    (Ok (l.1.features, c), layer_comes n exact s t b.1 l c k.1 h.0, (Ok (ls, cs), read_comes (suc n) exact ss ts ls cs bs h.1 k.2, ap (λ name. Ok ((name, l.1) ∷ ls, c ∷ cs)) (h.0.name ∙ sym k.0)))
read_comes n exact [] [] [] [] (b ∷ bs) h k = absurd k
read_comes n exact (s ∷ ss) (t ∷ ts) (l ∷ ls) (c ∷ cs) [] h k = absurd k
read_comes n exact olds news ls cs bs h k = absurd h

fails_layer : (n : ℕ) (exact : Bool) (old new : Fed) (b : List ℕ) (e : BuildFault) → old.left ≡ Some b → FailsToRead n exact old new e → IsOutsideRead e ⊎ LayerHasOutcome n exact b (Err e)
fails_layer n exact old new b (Read i read.Read) e f = inl tt
fails_layer n exact old new b (Read i read.TooLong) e f =
    inr (inl (subst (λ z. IfSome z (λ left. max_input < length left)) e f.1.1, ap (λ m. Err (Read m read.TooLong)) f.0))
fails_layer n exact old new b (Read i read.Memory) e f = absurd f.1
fails_layer n exact old new b Memory e f = inl tt
fails_layer n exact old new b (Text i fault) e f =
    inr (subst (LayerHasOutcome n exact b) (ap (λ m. Err (Text m fault)) (sym f.2.0)) (text_comes layer_depth (Read n read.TooLong) (of_text n exact) old new b f.0 (Err fault) e f.1 f.2.1))
fails_layer n exact old new b (Geo i fault) e f =
    inr (subst (LayerHasOutcome n exact b) (ap (of_layer n) f.2.5 ∙ ap (λ m. Err (Geo m fault)) (sym f.2.0)) (text_comes layer_depth (Read n read.TooLong) (of_text n exact) old new b f.0 (Ok f.2.3) e f.1 (f.2.2, f.2.4)))
fails_layer n exact old new b fault e f = absurd f.2

pub fails_come : (n : ℕ) (exact : Bool) (olds news : Sources) (bs : Texts) (e : BuildFault) → FailsAt exact n olds news e → HaveBytes olds bs → IsOutsideRead e ⊎ AllHaveOutcome n exact bs (Err e)
fails_come n exact (s ∷ ss) (t ∷ ts) [] e f k = absurd k
fails_come n exact (s ∷ ss) (t ∷ ts) (b ∷ bs) e (inl f) k = ⊎_elim (λ out. inl out) (λ comes. inr (Err e, comes, refl)) (fails_layer n exact s.1 t.1 b.1 e k.1 f.1)
fails_come n exact (s ∷ ss) (t ∷ ts) (b ∷ bs) e (inr f) k =
    ⊎_elim (λ out. inl out) (λ comes. inr (Ok (f.0.1.features, f.1), layer_comes n exact s t b.1 f.0 f.1 k.1 f.2, (Err e, comes, refl))) (fails_come (suc n) exact ss ts bs e f.3 k.2)
fails_come n exact olds news bs e f k = absurd f

-- ---- what it says of the bytes of the first layers

-- the first layers are taken, where all are
pub first_comes : (n : ℕ) (exact : Bool) (olds news : Sources) (ls : Named) (cs : List Counts) (bs : Texts) → AllRead exact olds news ls cs → FirstHaveBytes olds bs
    → (r : Named × List Counts) × AllHaveOutcome n exact bs (Ok r)
first_comes n exact [] [] [] [] [] h k = (([], []), refl)
first_comes n exact (s ∷ ss) (t ∷ ts) (l ∷ ls) (c ∷ cs) [] h k = (([], []), refl)
first_comes n exact (s ∷ ss) (t ∷ ts) (l ∷ ls) (c ∷ cs) (b ∷ bs) h k =
    let rest = first_comes (suc n) exact ss ts ls cs bs h.1 k.2 in
    (((b.0, l.1) ∷ rest.0.0, c ∷ rest.0.1), (Ok (l.1.features, c), layer_comes n exact s t b.1 l c k.1 h.0, (Ok rest.0, rest.1, refl)))
first_comes n exact [] [] [] [] (b ∷ bs) h k = absurd k
first_comes n exact olds news ls cs bs h k = absurd h

-- they have the fault, or they are taken, and the fault is after them
pub first_fails : (n : ℕ) (exact : Bool) (olds news : Sources) (bs : Texts) (e : BuildFault) → FailsAt exact n olds news e → FirstHaveBytes olds bs
    → IsOutsideRead e ⊎ (AllHaveOutcome n exact bs (Err e) ⊎ ((r : Named × List Counts) × AllHaveOutcome n exact bs (Ok r)))
first_fails n exact (s ∷ ss) (t ∷ ts) [] e f k = inr (inr (([], []), refl))
first_fails n exact (s ∷ ss) (t ∷ ts) (b ∷ bs) e (inl f) k = ⊎_elim (λ out. inl out) (λ comes. inr (inl (Err e, comes, refl))) (fails_layer n exact s.1 t.1 b.1 e k.1 f.1)
first_fails n exact (s ∷ ss) (t ∷ ts) (b ∷ bs) e (inr f) k =
    let here : LayerHasOutcome n exact b.1 (Ok (f.0.1.features, f.1)) = layer_comes n exact s t b.1 f.0 f.1 k.1 f.2 in
    ⊎_elim (λ out. inl out)
    (λ h. ⊎_elim (λ comes. inr (inl (Ok (f.0.1.features, f.1), here, (Err e, comes, refl)))) (λ rest. inr (inr (((b.0, f.0.1) ∷ rest.0.0, f.1 ∷ rest.0.1), (Ok (f.0.1.features, f.1), here, (Ok rest.0, rest.1, refl))))) h)
    (first_fails (suc n) exact ss ts bs e f.3 k.2)
first_fails n exact olds news bs e f k = absurd f
