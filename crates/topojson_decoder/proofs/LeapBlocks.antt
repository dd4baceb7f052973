-- Sixty-four bytes at once.
use Rattle.std.proofs.Common.{◌≡◌, ℕ, zero, suc, ◌+◌, ◌-◌, ◌*◌, ◌<◌, ◌≤◌, Bool, true, false, not, if◌then◌else◌, ◌&&◌, cond, eqb, List, [], ◌∷◌, length, map, take, drop, get_or, bit_and, refl, sym, ap, ◌∙◌, arith}
use Rattle.std.specs.Int.RustNames.{count_ones}
use Rattle.std.specs.Simd.Lanes.{mask_l}
use Rattle.std.proofs.lemmas.List.{length-map, length-take-le}
use Rattle.std.proofs.lemmas.Nat.{ones_cat}
use Rattle.std.proofs.lemmas.Simd.{none_from_empty_mask}
use Rattle.json_reading.proofs.Steps.{differs}
use Rattle.topojson_decoder.specs.Leaping.{end_of, is_closing, is_opening, is_quote, level, outsides, turned}
use Rattle.topojson_decoder.proofs.LeapParts.{closes_one, none_turned, opens_more, passes, string_goes_on, turned_more}
use Rattle.topojson_decoder.proofs.LeapTurns.{and_bits, bit_below, doubled}

-- how many bytes of a kind stand outside strings
abbrev outside : (ℕ → Bool) → Bool → List ℕ → ℕ
outside p o bs = count_ones (bit_and (mask_l (map p bs)) (mask_l (outsides o (map is_quote bs))))

outside_none : (p : ℕ → Bool) (o : Bool) → outside p o [] ≡ 0
unfolding count_ones
outside_none p o = refl

one_bit : (t : Bool) → count_ones (cond t 1 0) ≡ cond t 1 0
unfolding count_ones
one_bit true = refl
one_bit false = refl

one_more : (t : Bool) (n : ℕ) → count_ones (cond t 1 0 + 2 * n) ≡ cond t 1 0 + count_ones n
one_more t n = let e = ap count_ones (doubled n t) ∙ ones_cat 1 n (cond t 1 0) (bit_below t) in omega (arith, e, one_bit t)

abbrev after : Bool → Bool → Bool
after t q = if t then not q else q

outside_more : (p : ℕ → Bool) (o : Bool) (b : ℕ) (bs : List ℕ) → outside p o (b ∷ bs) ≡ cond (p b && after (is_quote b) o) 1 0 + outside p (after (is_quote b) o) bs
outside_more p o b bs =
    ap count_ones (and_bits (p b) (after (is_quote b) o) (mask_l (map p bs)) (mask_l (outsides (after (is_quote b) o) (map is_quote bs))))
    ∙ one_more (p b && after (is_quote b) o) (bit_and (mask_l (map p bs)) (mask_l (outsides (after (is_quote b) o) (map is_quote bs))))

not_after : (t q : Bool) → after t (not q) ≡ not (after t q)
not_after true q = refl
not_after false q = refl

no_count : (t : Bool) → cond {A = ℕ} (t && false) 1 0 ≡ 0
no_count true = refl
no_count false = refl

module _ (b : ℕ) (rest : List ℕ) (d : ℕ) (some : 0 < d) (plain : eqb b 92 ≡ false) where
  to : (q : Bool) (n e : ℕ) → n ≡ e → end_of (level n q) rest ≡ end_of (level e q) rest
  to q n e h = ap (λ z. end_of (level z q) rest) h

  one : (q t o c : Bool) → is_quote b ≡ t → is_opening b ≡ o → is_closing b ≡ c → (e : ℕ) → cond (c && after t (not q)) 1 0 < d → e + cond (c && after t (not q)) 1 0 ≡ d + cond (o && after t (not q)) 1 0 → end_of (level d q) (b ∷ rest) ≡ end_of (level e (after t q)) rest
  one q true true c h k l e lt is = let wrong : true ≡ false = sym h ∙ differs is_opening b 34 refl k in absurd cc
  one q true false true h k l e lt is = let wrong : true ≡ false = sym h ∙ differs is_closing b 34 refl l in absurd cc
  one true true false false h k l e lt is = string_goes_on b (b ∷ rest) rest refl d some plain ∙ ap (λ z. end_of (level d (not z)) rest) h ∙ to false d e (omega (arith, is))
  one true false o c h k l e lt is = string_goes_on b (b ∷ rest) rest refl d some plain ∙ ap (λ z. end_of (level d (not z)) rest) h ∙ to true d e (omega (arith, is, no_count o, no_count c))
  one false true false false h k l e lt is = passes b (b ∷ rest) rest refl d some k l ∙ ap (λ z. end_of (level d z) rest) h ∙ to true d e (omega (arith, is))
  one false false false false h k l e lt is = passes b (b ∷ rest) rest refl d some k l ∙ ap (λ z. end_of (level d z) rest) h ∙ to false d e (omega (arith, is))
  one false false true false h k l e lt is = opens_more b (b ∷ rest) rest refl d e (omega (arith, is)) k
  one false false false true h k l e lt is = closes_one b (b ∷ rest) rest refl d lt k l ∙ to false (d - 1) e (omega (arith, is))
  one false false true true h k l e lt is = let wrong : true ≡ false = sym l ∙ closing_is in absurd cc where
    closing_is : is_closing b ≡ false
    closing_is = rw (differs is_opening b 93 refl k, differs is_opening b 125 refl k) refl

block : (n : ℕ) (bs : List ℕ) → n ≤ length bs → ((k : ℕ) → k < n → eqb (get_or bs k 0) 92 ≡ false) → (q : Bool) (d e : ℕ) → outside is_closing (not q) (take n bs) < d → e + outside is_closing (not q) (take n bs) ≡ d + outside is_opening (not q) (take n bs) →
    end_of (level d q) bs ≡ end_of (level e (turned q (count_ones (mask_l (map is_quote (take n bs)))))) (drop n bs)
block zero bs le plain q d e lt is =
    ap (λ z. end_of (level z q) bs) (omega (arith, is, outside_none is_closing (not q), outside_none is_opening (not q)))
    ∙ ap (λ z. end_of (level e z) bs) (sym (none_turned q))
block (suc n) [] le plain q d e lt is = absurd (omega (arith, le))
block (suc n) (b ∷ bs) le plain q d e lt is =
    one b bs d (omega (arith, lt)) (plain 0 (omega arith)) q (is_quote b) (is_opening b) (is_closing b) refl refl refl next (omega (arith, lt, closes)) (omega (arith, lt, closes))
    ∙ block n bs (omega (arith, le)) (λ k below. plain (suc k) (omega (arith, below))) (after (is_quote b) q) next e (omega (arith, lt, closes, same is_closing)) (omega (arith, lt, is, closes, opens, same is_closing, same is_opening))
    ∙ ap (λ z. end_of (level e z) (drop n bs)) (turned_more q (is_quote b) (map is_quote (take n bs))) where
      next : ℕ
      next = d + cond (is_opening b && after (is_quote b) (not q)) 1 0 - cond (is_closing b && after (is_quote b) (not q)) 1 0

      closes : outside is_closing (not q) (b ∷ take n bs) ≡ cond (is_closing b && after (is_quote b) (not q)) 1 0 + outside is_closing (after (is_quote b) (not q)) (take n bs)
      closes = outside_more is_closing (not q) b (take n bs)

      opens : outside is_opening (not q) (b ∷ take n bs) ≡ cond (is_opening b && after (is_quote b) (not q)) 1 0 + outside is_opening (after (is_quote b) (not q)) (take n bs)
      opens = outside_more is_opening (not q) b (take n bs)

      same : (p : ℕ → Bool) → outside p (after (is_quote b) (not q)) (take n bs) ≡ outside p (not (after (is_quote b) q)) (take n bs)
      same p = ap (λ z. outside p z (take n bs)) (not_after (is_quote b) q)

module _ (rest : List ℕ) (enough : 64 ≤ length rest) (q : Bool) (escapes quotes outs opening closing : ℕ) (escape_bits : escapes ≡ mask_l (map (λ b. eqb b 92) (take 64 rest))) (quote_bits : quotes ≡ mask_l (map is_quote (take 64 rest)))
    (outs_by : (ms : List Bool) → length ms ≡ 64 → quotes ≡ mask_l ms → outs ≡ mask_l (outsides (not q) ms)) (opening_bits : opening ≡ mask_l (map is_opening (take 64 rest))) (closing_bits : closing ≡ mask_l (map is_closing (take 64 rest))) where
  outs_are : outs ≡ mask_l (outsides (not q) (map is_quote (take 64 rest)))
  outs_are = outs_by (map is_quote (take 64 rest)) (length-map (take 64 rest) is_quote ∙ length-take-le 64 rest enough) quote_bits

  opened_are : count_ones (bit_and opening outs) ≡ outside is_opening (not q) (take 64 rest)
  opened_are = rw (opening_bits, outs_are) refl

  closed_are : count_ones (bit_and closing outs) ≡ outside is_closing (not q) (take 64 rest)
  closed_are = rw (closing_bits, outs_are) refl

  pub block_passed : (d e opened closed : ℕ) (t : Bool) (more : List ℕ) → opened ≡ count_ones (bit_and opening outs) → closed ≡ count_ones (bit_and closing outs) → escapes ≡ 0 → closed < d → e + closed ≡ d + opened → t ≡ turned q (count_ones quotes) → more ≡ drop 64 rest → end_of (level d q) rest ≡ end_of (level e t) more
  block_passed d e opened closed t more h k none lt is turns left =
      rw (left, turns, quote_bits) (block 64 rest enough (λ i below. none_from_empty_mask (λ b. eqb b 92) rest 0 64 0 (omega (arith, enough)) (sym escape_bits ∙ none) i (omega arith) (omega (arith, below))) q d e (omega (arith, lt, k, closed_are)) (omega (arith, is, h, k, opened_are, closed_are)))
