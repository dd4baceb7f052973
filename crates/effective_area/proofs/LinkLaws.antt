-- Links that are set, and entries.
use Rattle.std.proofs.Common.{◌≡◌, ◌≢◌, ℕ, ◌+◌, ◌-◌, ◌<◌, ◌≤◌, List, [], ◌∷◌, ◌++◌, append_assoc, append-nil, pred, length, get_or, refl, ap, sym, ◌∙◌, subst, arith, ◌⊎◌, inl, inr, get_or-set_same, get_or-set_other}
use Rattle.std.proofs.Math.ListN.{set, length-set}
use Rattle.std.proofs.lemmas.List.{get_or_default, get_or_append_left, get_or_push, length-append}
use Rattle.geometry.specs.Areas.{twice_area}
use Rattle.geometry.specs.Points.{Point}
use Rattle.elimination_meaning.specs.Elimination.{Corner}
use Rattle.effective_area.specs.Vertices.{origin}
use Rattle.effective_area.specs.declared.links.Link.{Link}
use Rattle.effective_area.specs.declared.entry.Entry.{Entry}
use Rattle.effective_area.specs.Chains.{Chain, last_of}
use Rattle.effective_area.specs.Links.{IsFirst, IsLinked, first_link, after_in, before_in, area_in, entry_at, entry_in, SetsAfter, SetsArea, SetsBefore, Unlinks, CachesArea, cached}
use Rattle.effective_area.proofs.ChainLaws.{same_or_not}

-- a field that a write leaves
field_same : (f : Link → ℕ) (xs : List Link) (i v : ℕ) (x : Link) → i < length xs → f x ≡ f (get_or xs i first_link) → f (get_or (set xs i x) v first_link) ≡ f (get_or xs v first_link)
field_same f xs i v x h e = grind (arith, same_or_not, get_or-set_same, get_or-set_other)

abbrev link : ℕ → ℕ → ℕ → Link
link b a n = record { before = b; after = a; area = n }

pub sets_after : (xs : List Link) (i to : ℕ) (d : Link) → i < length xs → SetsAfter xs (set xs i (link (get_or xs i d).before to (get_or xs i d).area)) i to
sets_after xs i to d h = subst (λ x. SetsAfter xs (set xs i (link x.before to x.area)) i to) (get_or_default xs i first_link d h) here
  where
    here : SetsAfter xs (set xs i (link (get_or xs i first_link).before to (get_or xs i first_link).area)) i to
    here = unfold after_in before_in area_in in grind (arith, length-set, get_or-set_same, get_or-set_other, field_same)

pub sets_before : (xs : List Link) (i to : ℕ) (d : Link) → i < length xs → SetsBefore xs (set xs i (link to (get_or xs i d).after (get_or xs i d).area)) i to
sets_before xs i to d h = subst (λ x. SetsBefore xs (set xs i (link to x.after x.area)) i to) (get_or_default xs i first_link d h) here
  where
    here : SetsBefore xs (set xs i (link to (get_or xs i first_link).after (get_or xs i first_link).area)) i to
    here = unfold after_in before_in area_in in grind (arith, length-set, get_or-set_same, get_or-set_other, field_same)

pub sets_area : (xs : List Link) (i n : ℕ) (d : Link) → i < length xs → SetsArea xs (set xs i (link (get_or xs i d).before (get_or xs i d).after n)) i n
sets_area xs i n d h = subst (λ x. SetsArea xs (set xs i (link x.before x.after n)) i n) (get_or_default xs i first_link d h) here
  where
    here : SetsArea xs (set xs i (link (get_or xs i first_link).before (get_or xs i first_link).after n)) i n
    here = unfold after_in before_in area_in in grind (arith, length-set, get_or-set_same, get_or-set_other, field_same)

pub unlinks : (x y z w : List Link) (b i a : ℕ) → b < i → i < a → SetsAfter x y b a → SetsBefore y z a b → SetsBefore z w i i → Unlinks x w b i a
unlinks x y z w b i a l m p q r = grind arith

read : (ps : List Point) (k : ℕ) (p : Point) → k < length ps → p ≡ get_or ps k p → p ≡ get_or ps k origin
read ps k p h e = e ∙ get_or_default ps k p origin h

abbrev corner_of : ℕ → Point → ℕ → Corner
corner_of n p i = record { area = n; point = p; index = i }

abbrev entry_of : ℕ → ℕ → ℕ → ℕ → Entry
entry_of n b i a = record { area = n; index = i; before = b; after = a }

-- the area of a corner
pub area_is : (ps : List Point) (b i a : ℕ) (x y z : Point) (n : ℕ) → b < length ps → i < length ps → a < length ps →
    x ≡ get_or ps b x → y ≡ get_or ps i y → z ≡ get_or ps a z → n ≡ twice_area x y z → n ≡ (entry_at ps b i a).area
area_is ps b i a x y z n hb hi ha ex ey ez en = unfold entry_at in grind (arith, read)

pub entry_cached : (ps : List Point) (b i a n : ℕ) → n ≡ (entry_at ps b i a).area → entry_of n b i a ≡ entry_at ps b i a
unfolding entry_at
entry_cached ps b i a n e = ap (λ m. entry_of m b i a) e

pub cached_at : (ps : List Point) (links : List Link) (i n : ℕ) (y : Point) → i < length ps → y ≡ get_or ps i y → n ≡ area_in links i → corner_of n y i ≡ cached ps links i
cached_at ps links i n y h e en = unfold cached in ap (λ m. corner_of m y i) en ∙ ap (λ u. corner_of (area_in links i) u i) (read ps i y h e)

pub same_entry : (ps : List Point) (old new : List Link) (v : ℕ) → before_in new v ≡ before_in old v → after_in new v ≡ after_in old v → entry_in ps new v ≡ entry_in ps old v
same_entry ps old new v e f = ap (λ x. entry_at ps x v (after_in new v)) e ∙ ap (λ x. entry_at ps (before_in old v) v x) f

pub notes : (ps : List Point) (old new : List Link) (i n : ℕ) → 0 < i → i + 1 < length old → SetsArea old new i n → n ≡ (entry_in ps old i).area → CachesArea ps old new i
notes ps old new i n p q s e = grind (arith, same_entry)

pub notes_end : (ps : List Point) (links : List Link) (i : ℕ) → (0 < i → i + 1 < length links → ⊥) → CachesArea ps links links i
notes_end ps links i h = record { same = refl; here = λ p q. absurd (h p q); ends = λ _. refl; others = λ _ _. refl; befores = λ _. refl; afters = λ _. refl }

-- the areas up to i are cached
pub record CachedTo (ps : List Point) (old new : List Link) (i : ℕ) : Type 0 where
  pub first : IsFirst new (length ps)
  pub done : (v : ℕ) → 0 < v → v < i → area_in new v ≡ (entry_in ps new v).area
  pub rest : (v : ℕ) → (v ≡ 0) ⊎ (i ≤ v) → area_in new v ≡ area_in old v

at_each : (g : Link → ℕ) (k : ℕ → ℕ) (xs : List Link) (i : ℕ) (x : Link) → length xs ≡ i → (v : ℕ) → v < i + 1 → g x ≡ k i → ((w : ℕ) → w < i → g (get_or xs w first_link) ≡ k w) → g (get_or (xs ++ (x ∷ [])) v first_link) ≡ k v
at_each g k xs i x z v h here old = on (same_or_not v i)
  where
    on : (v ≡ i) ⊎ (v ≢ i) → g (get_or (xs ++ (x ∷ [])) v first_link) ≡ k v
    on (inl p) = ap g (ap (λ w. get_or (xs ++ (x ∷ [])) w first_link) (p ∙ sym z) ∙ get_or_push xs x first_link (length xs) refl) ∙ here ∙ ap k (sym p)
    on (inr n) = ap g (get_or_append_left xs (x ∷ []) first_link v (omega (arith, z))) ∙ old v (omega arith)

-- one more link at the end
pub first_more : (xs ys : List Link) (b i n : ℕ) → IsFirst xs i → ys ≡ xs ++ (link b (i + 1) n ∷ []) → b ≡ pred i → IsFirst ys (i + 1)
first_more xs ys b i n f e eb = unfold after_in before_in in record {
  size = ap length e ∙ length-append xs (link b (i + 1) n ∷ []) ∙ ap (λ m. m + 1) f.size;
  befores = λ v h. ap (λ zs. (get_or zs v first_link).before) e ∙ at_each (λ x. x.before) (λ w. pred w) xs i (link b (i + 1) n) f.size v h eb f.befores;
  afters = λ v h. ap (λ zs. (get_or zs v first_link).after) e ∙ at_each (λ x. x.after) (λ w. w + 1) xs i (link b (i + 1) n) f.size v h refl f.afters;
}

pub areas_more : (xs ys : List Link) (b i n : ℕ) → length xs ≡ i → ys ≡ xs ++ (link b (i + 1) n ∷ []) → ((v : ℕ) → v < i → area_in xs v ≡ n) → (v : ℕ) → v < i + 1 → area_in ys v ≡ n
unfolding area_in
areas_more xs ys b i n z e f v h = ap (λ zs. (get_or zs v first_link).area) e ∙ at_each (λ x. x.area) (λ w. n) xs i (link b (i + 1) n) z v h refl f

-- a walk along the links
pub record Walk (links : List Link) (i : ℕ) (kept rest vs : List ℕ) : Type 0 where
  pub linked : IsLinked links vs
  pub so_far : kept ++ rest ≡ 0 ∷ vs
  pub chain : Chain (after_in links) (before_in links) i rest
  pub ends : last_of i rest + 1 ≡ length links

at_most : (after before : ℕ → ℕ) (w : ℕ) (ws : List ℕ) → Chain after before w ws → w ≤ last_of w ws
at_most after before w [] h = omega arith
at_most after before w (x ∷ xs) h = let k = at_most after before x xs h.3 in omega (arith, h.2, k)

pub walk_below : (links : List Link) (i : ℕ) (kept rest vs : List ℕ) → Walk links i kept rest vs → i < length links
walk_below links i kept rest vs w = omega (arith, at_most (after_in links) (before_in links) i rest w.chain, w.ends)

pub walk_end : (links : List Link) (i : ℕ) (kept rest vs : List ℕ) → Walk links i kept rest vs → length links ≤ i + 1 → kept ≡ 0 ∷ vs
walk_end links i kept [] vs w h = sym (append-nil kept) ∙ w.so_far
walk_end links i kept (x ∷ xs) vs w h = absurd (omega (arith, w.chain.2, w.ends, at_most (after_in links) (before_in links) x xs w.chain.3))

pub walk_more : (links : List Link) (i : ℕ) (kept rest vs : List ℕ) → Walk links i kept rest vs → i + 1 < length links →
    (i < after_in links i) × ((rest' : List ℕ) × Walk links (after_in links i) (kept ++ (after_in links i ∷ [])) rest' vs)
walk_more links i kept [] vs w h = absurd (omega (arith, w.ends))
walk_more links i kept (x ∷ xs) vs w h = grind (arith, append_assoc)

pub walk_start : (links : List Link) (kept vs : List ℕ) → IsLinked links vs → kept ≡ 0 ∷ [] → Walk links 0 kept vs vs
walk_start links kept vs h e = record { linked = h; so_far = ap (λ l. l ++ vs) e; chain = h.chain; ends = h.last }
