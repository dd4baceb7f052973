-- The layers that sources spell, read one after another, or why one of them spells none.
use Rattle.std.specs.Prelude.{◌≡◌, ◌⊎◌, ℕ, suc, ◌+◌, Bool, List, [], ◌∷◌}
use Rattle.byte_ends.specs.Ends.{Fed, saturated}
use Rattle.geojson_types.specs.declared.counts.Counts.{Counts}
use Rattle.geojson_types.specs.Counting.{no_counts}
use Rattle.geojson_types.specs.declared.layer.Layer.{Layer}
use Rattle.inputs.specs.declared.fault.BuildFault.{BuildFault}
use Rattle.inputs.specs.declared.fault.BuildFault.TheVariants.{Memory}
use Rattle.inputs.specs.Texts.{IsRead, IsUntroubled}
use Rattle.inputs.specs.Reading.{SpellsLayer, FailsToRead}

-- layers with their names
abbrev pub Named : Type 0
Named = List (List ℕ × Layer)

-- sources with their names
abbrev pub Sources : Type 0
Sources = List (List ℕ × Fed)

-- the source was read to its end, and its bytes spell the layer of these counts under its name
pub record IsLayerRead (exact : Bool) (old new : List ℕ × Fed) (layer : List ℕ × Layer) (counts : Counts) : Type 0 where
  pub same : new.0 ≡ old.0
  pub name : layer.0 ≡ old.0
  pub bytes : List ℕ
  pub read : IsRead old.1 new.1 bytes
  pub spells : SpellsLayer exact bytes layer.1.features counts

-- the first sources were read, one for each layer, and those after them weren't touched
abbrev pub HaveRead : Bool → Sources → Sources → Named → List Counts → Type 0
HaveRead exact olds news [] [] = news ≡ olds
HaveRead exact (s ∷ olds) (t ∷ news) (l ∷ layers) (c ∷ counts) = IsLayerRead exact s t l c × HaveRead exact olds news layers counts
HaveRead exact olds news layers counts = ⊥

-- all were
abbrev pub AllRead : Bool → Sources → Sources → Named → List Counts → Type 0
AllRead exact [] [] [] [] = Unit {0}
AllRead exact (s ∷ olds) (t ∷ news) (l ∷ layers) (c ∷ counts) = IsLayerRead exact s t l c × AllRead exact olds news layers counts
AllRead exact olds news layers counts = ⊥

-- The first sources were read, where the first of all has this number; the next one spells no layer, and those after it weren't touched.
abbrev pub FailsAt : Bool → ℕ → Sources → Sources → BuildFault → Type 0
FailsAt exact n (s ∷ olds) (t ∷ news) e =
    ((t.0 ≡ s.0) × FailsToRead n exact s.1 t.1 e × (news ≡ olds))
    ⊎ ((l : List ℕ × Layer) × (c : Counts) × IsLayerRead exact s t l c × FailsAt exact (suc n) olds news e)
FailsAt exact n olds news e = ⊥

-- each source has its name and no failure more, and gave no more bytes than an input may have
abbrev pub AreUntroubled : Sources → Sources → Type 0
AreUntroubled [] [] = Unit {0}
AreUntroubled (s ∷ olds) (t ∷ news) = (t.0 ≡ s.0) × IsUntroubled s.1 t.1 × AreUntroubled olds news
AreUntroubled olds news = ⊥

-- the counts of two parts, added
abbrev pub plus : Counts → Counts → Counts
plus a b = record { rounded = saturated (a.rounded + b.rounded); extra = saturated (a.extra + b.extra); empty = saturated (a.empty + b.empty) }

-- the counts of all parts, added
abbrev pub added : List Counts → Counts
added [] = no_counts
added (c ∷ cs) = plus c (added cs)

-- why the sources don't spell layers
abbrev pub FailsToReadAll : Bool → Sources → Sources → BuildFault → Type 0
FailsToReadAll exact olds news Memory = AreUntroubled olds news
FailsToReadAll exact olds news e = FailsAt exact 0 olds news e

-- all sources were read, and their counts add up to this
abbrev pub AllReadTo : Bool → Sources → Sources → Named → Counts → Type 0
AllReadTo exact olds news layers total = (counts : List Counts) × AllRead exact olds news layers counts × (total ≡ added counts)
