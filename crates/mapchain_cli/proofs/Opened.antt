-- Layers and the sources that their files are opened as.
use Rattle.std.proofs.Common.{◌≡◌, ℕ, zero, ◌+◌, ◌<◌, List, [], ◌∷◌, ◌++◌, length, map, get_or, take, drop, append-nil, None, true, false, arith, suc, ◌≤◌, refl, sym, ap, subst, ◌∙◌, Bor}
use Rattle.std.proofs.lemmas.List.{drop_all, length-map, map_push, take_all, take_more}
use Rattle.std.proofs.lemmas.Option.{slice_get-get_or, slice_get-map}
use Rattle.std.specs.Option.{option_map}
use Rattle.byte_ends.specs.Ends.{Fed}
use Rattle.byte_ends.specs.declared.source.ReadFault.TheVariants as read
use Rattle.inputs.specs.declared.fault.BuildFault.TheVariants as build
use Rattle.inputs.specs.Sources.{Sources}
use Rattle.mapchain_cli.specs.Asking.{texts_of}
use Rattle.mapchain_cli.specs.Endings.{IsUnopened}
use Rattle.mapchain_cli.specs.Files.{AreOpened, Contents, FileState, IsOpened, Layers, one_more, opened_times, used}

-- one more layer
one_layer_more : (contents : Contents) (layers : Layers) (sources : Sources) (layer : List ℕ × List ℕ) (source : List ℕ × Fed)
    → AreOpened contents layers sources → source.0 ≡ layer.0 → IsOpened contents layer.1 source.1 → AreOpened contents (layers ++ layer ∷ []) (sources ++ source ∷ [])
one_layer_more contents [] [] layer source h named opened = (named, opened, tt)
one_layer_more contents [] (s ∷ sources) layer source h named opened = absurd h
one_layer_more contents (l ∷ layers) [] layer source h named opened = absurd h
one_layer_more contents (l ∷ layers) (s ∷ sources) layer source h named opened =
    (h.0, h.1, one_layer_more contents layers sources layer source h.2 named opened)

-- the sources have the names of the layers
pub names_of_opened : (contents : Contents) (layers : Layers) (sources : Sources) → AreOpened contents layers sources → map (λ s. s.0) sources ≡ map (λ l. l.0) layers
names_of_opened contents [] [] h = refl
names_of_opened contents [] (s ∷ sources) h = absurd h
names_of_opened contents (l ∷ layers) [] h = absurd h
names_of_opened contents (l ∷ layers) (s ∷ sources) h = λ i. (h.0 i) ∷ (names_of_opened contents layers sources h.2 i)

-- a vector that was lent as a slice holds what became of that
pub written_back : {A : Type 0} (n : ℕ) (news items : List A) → n ≡ length items → length news ≡ length items → take n (news ++ drop (length news) items) ≡ news
written_back n news items all same =
    ap (λ left. take n (news ++ left)) (drop_all (length news) items (omega (arith, same))) ∙ ap (take n) (append-nil news)
    ∙ take_all n news (omega (arith, all, same))

-- one more file was opened
pub once_more : (n : ℕ) (s : FileState) → one_more true (opened_times n s) ≡ opened_times (n + 1) s
once_more n s =
    let e : n + 1 ≡ suc n = omega arith in
    subst (λ m. one_more true (opened_times n s) ≡ opened_times m s) (sym e) refl

-- the files that were opened hold what they held
pub times_contents : (n : ℕ) (s : FileState) → (opened_times n s).contents ≡ s.contents
times_contents zero s = refl
times_contents (suc n) s = times_contents n s

pub still : (n : ℕ) (before after : FileState) → after ≡ opened_times n before → after.contents ≡ before.contents
still n before after times = ap (λ (s : FileState). s.contents) times ∙ times_contents n before

-- a prefix of the layers is one of their texts
pub prefix_of_texts : (layers : List (Bor (List ℕ) × Bor (List ℕ))) (n : ℕ) → n ≤ length layers → n ≤ length (texts_of layers)
prefix_of_texts layers n h =
    let e : length (texts_of layers) ≡ length layers = length-map layers (λ l. (l.0.now, l.1.now)) in
    omega (arith, h, e)

-- the layer of this number
module _ (before : FileState) (layers : List (Bor (List ℕ) × Bor (List ℕ))) (i : ℕ) (layer : Bor (List ℕ) × Bor (List ℕ)) (within : i < length layers) where
  -- its file is opened after those before it
  pub next_opened : (sources : Sources) (source : List ℕ × Fed) → AreOpened before.contents (texts_of (take i layers)) sources
      → source.0 ≡ (get_or layers i layer).0.now → IsOpened before.contents (get_or layers i layer).1.now source.1
      → AreOpened before.contents (texts_of (take (i + 1) layers)) (sources ++ source ∷ [])
  next_opened sources source h named opened =
      subst (λ ls. AreOpened before.contents ls (sources ++ source ∷ []))
      (sym (ap texts_of (take_more layers i layer within) ∙ map_push (λ l. (l.0.now, l.1.now)) (take i layers) (get_or layers i layer)))
      (one_layer_more before.contents (texts_of (take i layers)) sources _ source h named opened)

  -- its file can't be opened
  pub unopened : (after : FileState) → after ≡ one_more false (opened_times i before) → before.contents (get_or layers i layer).1.now ≡ None
      → IsUnopened (used before after) (texts_of layers) (build.Read i read.Read)
  unopened after tried absent = (
    i,
    ((get_or layers i layer).0.now, (get_or layers i layer).1.now),
    slice_get-map (λ l. (l.0.now, l.1.now)) layers i ∙ ap (option_map (λ l. (l.0.now, l.1.now))) (slice_get-get_or layers i layer within),
    absent,
    tried,
    refl,
  )
