-- The sources, as a loop reads one after another.
use Rattle.std.proofs.Common.{◌≡◌, inl, inr, ℕ, suc, ◌+◌, ◌<◌, ◌≤◌, Bool, List, [], ◌∷◌, ◌++◌, length, get_or, slice_set, refl, sym, ap, ◌∙◌, subst, arith}
use Rattle.std.proofs.lemmas.List.{length_push, get_or-set_same}
use Rattle.std.proofs.KnownBytes.{Consumes-nil}
use Rattle.byte_ends.specs.Ends.{Fed, saturated}
use Rattle.geojson_types.specs.declared.counts.Counts.{Counts}
use Rattle.geojson_types.specs.declared.layer.Layer.{Layer}
use Rattle.inputs.specs.declared.fault.BuildFault.{BuildFault}
use Rattle.inputs.specs.declared.fault.BuildFault.TheVariants.{Memory}
use Rattle.inputs.specs.Texts.{IsRead, IsUntroubled}
use Rattle.inputs.specs.Reading.{FailsToRead, SpellsLayer}
use Rattle.inputs.specs.Sources.{Sources, Named, IsLayerRead, HaveRead, AllRead, FailsAt, FailsToReadAll, AreUntroubled, plus, added}

abbrev Source : Type 0
Source = List ℕ × Fed

abbrev NamedLayer : Type 0
NamedLayer = List ℕ × Layer

-- ---- one more source is read

pub read_more : (exact : Bool) (olds mid : Sources) (ls : Named) (cs : List Counts) (x : Source) (source : Fed) (l : NamedLayer) (c : Counts) → HaveRead exact olds mid ls cs
    → length ls < length mid → x ≡ get_or mid (length ls) x → IsLayerRead exact x (x.0, source) l c
    → HaveRead exact olds (slice_set mid (length ls) (x.0, source)) (ls ++ l ∷ []) (cs ++ c ∷ [])
read_more exact olds [] [] [] x source l c h lt is one = absurd (omega (arith, lt))
read_more exact [] (t ∷ ts) [] [] x source l c h lt is one = absurd cc
read_more exact (s ∷ ss) (t ∷ ts) [] [] x source l c h lt is one =
    let e : t ≡ s = cc in
    let f : ts ≡ ss = cc in
    (subst (λ z. IsLayerRead exact z (x.0, source) l c) (is ∙ e) one, f)
read_more exact olds mid [] (d ∷ cs) x source l c h lt is one = absurd h
read_more exact [] mid (k ∷ ls) cs x source l c h lt is one = absurd h
read_more exact (s ∷ ss) [] (k ∷ ls) cs x source l c h lt is one = absurd h
read_more exact (s ∷ ss) (t ∷ ts) (k ∷ ls) [] x source l c h lt is one = absurd h
read_more exact (s ∷ ss) (t ∷ ts) (k ∷ ls) (d ∷ cs) x source l c h lt is one = (h.0, read_more exact ss ts ls cs x source l c h.1 (omega (arith, lt)) is one)

pub read_all_of : (exact : Bool) (olds mid : Sources) (ls : Named) (cs : List Counts) → HaveRead exact olds mid ls cs → length mid ≤ length ls → AllRead exact olds mid ls cs
read_all_of exact [] [] [] [] h le = tt
read_all_of exact (s ∷ ss) [] [] [] h le = absurd cc
read_all_of exact olds (t ∷ ts) [] [] h le = absurd (omega (arith, le))
read_all_of exact (s ∷ ss) (t ∷ ts) (k ∷ ls) (d ∷ cs) h le = (h.0, read_all_of exact ss ts ls cs h.1 (omega (arith, le)))
read_all_of exact olds mid ls cs h le = absurd h

-- ---- one that fails

pub fails_at : (exact : Bool) (n m : ℕ) (olds mid : Sources) (ls : Named) (cs : List Counts) (x : Source) (source : Fed) (e : BuildFault) → HaveRead exact olds mid ls cs
    → length ls < length mid → x ≡ get_or mid (length ls) x → m ≡ n + length ls → FailsToRead m exact x.1 source e → FailsAt exact n olds (slice_set mid (length ls) (x.0, source)) e
fails_at exact n m olds [] [] [] x source e h lt is k f = absurd (omega (arith, lt))
fails_at exact n m [] (t ∷ ts) [] [] x source e h lt is k f = absurd cc
fails_at exact n m (s ∷ ss) (t ∷ ts) [] [] x source e h lt is k f =
    let a : t ≡ s = cc in
    let b : ts ≡ ss = cc in
    let same : m ≡ n = omega (arith, k) in
    inl (ap (λ z. z.0) (is ∙ a), subst (λ z. FailsToRead z exact s.1 source e) same (subst (λ z. FailsToRead m exact z.1 source e) (is ∙ a) f), b)
fails_at exact n m olds mid [] (d ∷ cs) x source e h lt is k f = absurd h
fails_at exact n m [] mid (y ∷ ls) cs x source e h lt is k f = absurd h
fails_at exact n m (s ∷ ss) [] (y ∷ ls) cs x source e h lt is k f = absurd h
fails_at exact n m (s ∷ ss) (t ∷ ts) (y ∷ ls) [] x source e h lt is k f = absurd h
fails_at exact n m (s ∷ ss) (t ∷ ts) (y ∷ ls) (d ∷ cs) x source e h lt is k f =
    inr (y, d, h.0, fails_at exact (suc n) m ss ts ls cs x source e h.1 (omega (arith, lt)) is (omega (arith, k)) f)

-- ---- none has failed

-- a source that isn't touched gives nothing
untouched : (source : Fed) → IsUntroubled source source
untouched source = record { sound = refl; within = ([], Consumes-nil source.left, omega arith, omega arith); ended = omega arith }

untroubled_same : (olds : Sources) → AreUntroubled olds olds
untroubled_same [] = tt
untroubled_same (s ∷ ss) = (refl, untouched s.1, untroubled_same ss)

pub untroubled_all : (exact : Bool) (olds news : Sources) (ls : Named) (cs : List Counts) → AllRead exact olds news ls cs → AreUntroubled olds news
untroubled_all exact [] [] [] [] h = tt
untroubled_all exact (s ∷ ss) (t ∷ ts) (k ∷ ls) (d ∷ cs) h = (h.0.same, h.0.read.untroubled, untroubled_all exact ss ts ls cs h.1)
untroubled_all exact olds news ls cs h = absurd h

-- memory was refused at one of them
untroubled_at : (exact : Bool) (n : ℕ) (olds news : Sources) → FailsAt exact n olds news Memory → AreUntroubled olds news
untroubled_at exact n (s ∷ ss) (t ∷ ts) (inl f) = (f.0, f.1, subst (AreUntroubled ss) (sym f.2) (untroubled_same ss))
untroubled_at exact n (s ∷ ss) (t ∷ ts) (inr f) = (f.2.same, f.2.read.untroubled, untroubled_at exact (suc n) ss ts f.3)
untroubled_at exact n olds news f = absurd f

-- what stopped the reading of a source stopped that of all
pub stops : (exact : Bool) (olds mid : Sources) (ls : Named) (cs : List Counts) (x : Source) (source : Fed) (e : BuildFault) → HaveRead exact olds mid ls cs → length ls < length mid
    → x ≡ get_or mid (length ls) x → FailsToRead (length ls) exact x.1 source e → FailsToReadAll exact olds (slice_set mid (length ls) (x.0, source)) e
stops exact olds mid ls cs x source Memory h lt is f =
    untroubled_at exact 0 olds (slice_set mid (length ls) (x.0, source)) (fails_at exact 0 (length ls) olds mid ls cs x source Memory h lt is (omega arith) f)
stops exact olds mid ls cs x source e h lt is f = fails_at exact 0 (length ls) olds mid ls cs x source e h lt is (omega arith) f

-- ---- counts

saturated_same : (a b c : ℕ) → saturated (saturated (a + b) + c) ≡ saturated (a + saturated (b + c))
saturated_same a b c = grind (arith)

plus_same : (a b c : Counts) → plus (plus a b) c ≡ plus a (plus b c)
plus_same a b c = rw (saturated_same a.rounded b.rounded c.rounded, saturated_same a.extra b.extra c.extra, saturated_same a.empty b.empty c.empty) refl

swapped : (a : ℕ) → saturated (a + 0) ≡ saturated (0 + a)
swapped a = grind (arith)

pub added_more : (cs : List Counts) (c : Counts) → added (cs ++ c ∷ []) ≡ plus (added cs) c
added_more [] c = rw (swapped c.rounded, swapped c.extra, swapped c.empty) refl
added_more (d ∷ cs) c = ap (plus d) (added_more cs c) ∙ sym (plus_same d (added cs) c)

-- ---- a turn of the loop, by its number

same_many : (exact : Bool) (olds mid : Sources) (ls : Named) (cs : List Counts) → HaveRead exact olds mid ls cs → length mid ≡ length olds
same_many exact olds mid [] [] h = ap length h
same_many exact (s ∷ ss) (t ∷ ts) (k ∷ ls) (d ∷ cs) h = ap suc (same_many exact ss ts ls cs h.1)
same_many exact olds mid ls cs h = absurd h

module _ (exact : Bool) (olds mid : Sources) (ls : Named) (cs : List Counts) (have : HaveRead exact olds mid ls cs) (k : ℕ) (number : k ≡ length ls) where
  module _ (x : Source) (source : Fed) (lt : k < length olds) (is : x ≡ get_or mid k x) where
    within : length ls < length mid
    within = rw (sym number, same_many exact olds mid ls cs have) lt

    there : x ≡ get_or mid (length ls) x
    there = rw (sym number) is

    pub turn : (l : NamedLayer) (c total new : Counts) (after : Named) → IsLayerRead exact x (x.0, source) l c → total ≡ added cs → after ≡ ls ++ l ∷ [] → new ≡ plus total c
        → (all : List Counts) × HaveRead exact olds (slice_set mid k (x.0, source)) after all × (k + 1 ≡ length after) × (new ≡ added all)
    turn l c total new after one sums e now = (
      cs ++ c ∷ [],
      rw (number, e) (read_more exact olds mid ls cs x source l c have within there one),
      ap (λ n. n + 1) number ∙ sym (ap length e ∙ length_push ls l),
      now ∙ ap (λ t. plus t c) sums ∙ sym (added_more cs c),
    )

    pub named : (name : List ℕ) (d : Source) → name ≡ (get_or (slice_set mid k (x.0, source)) k d).0 → name ≡ x.0
    named name d e = e ∙ ap (λ z. z.0) (get_or-set_same mid k (x.0, source) d (rw number within))

    pub stopped : (e : BuildFault) → FailsToRead k exact x.1 source e → FailsToReadAll exact olds (slice_set mid k (x.0, source)) e
    stopped e f = rw number (stops exact olds mid ls cs x source e have within there (rw (sym number) f))

    -- memory was refused after the source that was read last
    pub short_of_memory : IsUntroubled x.1 source → AreUntroubled olds (slice_set mid k (x.0, source))
    short_of_memory is_well = stopped Memory is_well

  pub ended : length olds ≤ k → AllRead exact olds mid ls cs
  ended le = read_all_of exact olds mid ls cs have (rw (sym number, same_many exact olds mid ls cs have) le)

-- one layer, as it was read
pub one_read : (exact : Bool) (old new : Source) (layer : NamedLayer) (c : Counts) → new.0 ≡ old.0 → layer.0 ≡ old.0 → (r : (bytes : List ℕ) × IsRead old.1 new.1 bytes × SpellsLayer exact bytes layer.1.features c)
    → IsLayerRead exact old new layer c
one_read exact old new layer c same name r = record { same = same; name = name; bytes = r.0; read = r.1; spells = r.2 }
