-- What stands as it is written.
use Rattle.std.proofs.Common.{◌≡◌, ◌≢◌, ℕ, zero, suc, ◌+◌, ◌-◌, ◌<◌, true, false, eqb, List, [], ◌∷◌, ◌++◌, length, take, Some, None, refl, sym, ap, subst, ◌∙◌, append_assoc, length-append, arith}
use Rattle.std.specs.Prelude.{codes}
use Rattle.std.specs.List.{AllByRecursion}
use Rattle.std.proofs.lemmas.Bool.{and_parts, eq-eqb}
use Rattle.json_value.specs.Grammar.{is_plain, is_space}
use Rattle.json_value.specs.Reading.{Parse, skip, after_word, after_number, number_at, name_at, member_at, value_at, array_at, object_at, list_at, items_at}
use Rattle.json_value.specs.Text.{json_text, quoted}
use Rattle.json_reading.proofs.NumbersRead.{number_takes}
use Rattle.json_reading.proofs.Words.{skip_takes}
use Rattle.json_reading.specs.Strings.{EndsPlain, simple, is_simple}
use Rattle.json_reading.proofs.PlainStrings.{plain_string}
use Rattle.json_cursor.specs.Copying.{any, whole_member, elements_text, members_text, Copies}
use Rattle.json_cursor.specs.Spans.{Spans, SpansFirst}
use Rattle.json_cursor.proofs.Copied.{null_copied, true_copied, false_copied, string_copied, number_copied, number_value_copied, array_copied, object_copied, member_copied}
use Rattle.json_cursor.proofs.CopiedLists as lists
use Rattle.json_cursor.proofs.Quoted.{plain_quoted}

-- what is written after nothing is written so after any text
shifted : {A : Type 0} (read : Parse A) (written : A → List ℕ) (bytes rest old new : List ℕ) → Copies read written bytes rest [] new → Copies read written bytes rest old (old ++ new)
shifted read written bytes rest old new c = record { thing = c.thing; found = c.found; text = ap (λ z. old ++ z) c.text }

no_space : (b : ℕ) (bytes inside : List ℕ) → bytes ≡ b ∷ inside → is_space b ≡ false → skip bytes ≡ bytes
unfolding skip
no_space b bytes inside is h = rw (is, h) refl

-- ---- numbers

no_space_passed : (w bytes rest : List ℕ) → bytes ≡ w ++ rest → length rest ≡ length bytes → rest ≡ bytes
no_space_passed [] bytes rest is same = sym is
no_space_passed (b ∷ w) bytes rest is same = absurd (omega (arith, same, ap length is, length-append (b ∷ w) rest))

all_there : (bytes : List ℕ) → length (skip bytes) ≡ length bytes → skip bytes ≡ bytes
all_there bytes h = let w = skip_takes bytes in no_space_passed w.0 bytes (skip bytes) w.2 h

pub number_spans : (bytes rest : List ℕ) → length (skip bytes) ≡ length bytes → after_number bytes ≡ Some rest → SpansFirst number_at (λ t. t) bytes rest
unfolding number_at
number_spans bytes rest first h =
    let number = take (length bytes - length rest) bytes in
    let found : number_at bytes ≡ Some (number, rest) = rw h refl in
    let r = number_takes bytes (number, rest) found in
    record {
      spans = record { span = number; splits = r.2 ∙ ap (λ z. z ++ rest) r.1.1; copied = number_copied bytes rest number [] number h refl refl };
      first = all_there bytes first;
    }

-- ---- strings

all_plain : (t : List ℕ) → simple t ≡ true → AllByRecursion (λ b. is_plain b ≡ true) t
all_plain [] h = tt
all_plain (b ∷ t) h =
    let e = and_parts (is_simple b) (simple t) h in
    ((and_parts _ _ e.0).1, all_plain t e.1)

pub string_spans : (b : ℕ) (bytes inside text rest : List ℕ) → bytes ≡ b ∷ inside → b ≡ 34 → EndsPlain inside text rest → SpansFirst (name_at any) quoted bytes rest
unfolding name_at after_word
string_spans b bytes inside text rest is quote h =
    let whole : bytes ≡ 34 ∷ inside = is ∙ ap (λ z. z ∷ inside) quote in
    record {
      spans = record {
        span = 34 ∷ (text ++ 34 ∷ []);
        splits = whole ∙ ap (λ z. 34 ∷ z) (h.0 ∙ sym (append_assoc text (34 ∷ []) rest));
        copied = record { thing = text; found = rw whole (plain_string inside text rest h); text = sym (plain_quoted text (all_plain text h.1)) };
      };
      first = no_space 34 bytes inside whole refl;
    }

-- ---- values

module _ (d : ℕ) (bytes rest : List ℕ) where
  pub null_spans : bytes ≡ codes "null" ++ rest → SpansFirst (value_at any d) json_text bytes rest
  null_spans h = record { spans = record { span = codes "null"; splits = h; copied = null_copied d bytes rest [] (codes "null") h refl }; first = no_space 110 bytes (codes "ull" ++ rest) h refl }

  pub true_spans : bytes ≡ codes "true" ++ rest → SpansFirst (value_at any d) json_text bytes rest
  true_spans h = record { spans = record { span = codes "true"; splits = h; copied = true_copied d bytes rest [] (codes "true") h refl }; first = no_space 116 bytes (codes "rue" ++ rest) h refl }

  pub false_spans : bytes ≡ codes "false" ++ rest → SpansFirst (value_at any d) json_text bytes rest
  false_spans h = record { spans = record { span = codes "false"; splits = h; copied = false_copied d bytes rest [] (codes "false") h refl }; first = no_space 102 bytes (codes "alse" ++ rest) h refl }

  module _ (b : ℕ) (inside : List ℕ) (is : bytes ≡ b ∷ inside) where
    pub text_spans : b ≡ 34 → SpansFirst (name_at any) quoted bytes rest → SpansFirst (value_at any d) json_text bytes rest
    text_spans q s = record { spans = record { span = s.spans.span; splits = s.spans.splits; copied = string_copied d bytes rest [] s.spans.span b inside is q s.spans.copied }; first = s.first }

    pub number_value_spans : b ≢ 110 → b ≢ 116 → b ≢ 102 → b ≢ 34 → b ≢ 91 → b ≢ 123 → SpansFirst number_at (λ t. t) bytes rest → SpansFirst (value_at any d) json_text bytes rest
    number_value_spans n t f q a o s = record { spans = record { span = s.spans.span; splits = s.spans.splits; copied = number_value_copied d bytes rest [] s.spans.span b inside is n t f q a o s.spans.copied }; first = s.first }

    pub array_spans : b ≡ 91 → d ≢ 0 → Spans (array_at any (d - 1)) elements_text inside rest → SpansFirst (value_at any d) json_text bytes rest
    array_spans q depth_left s =
        let whole : bytes ≡ 91 ∷ inside = is ∙ ap (λ z. z ∷ inside) q in
        record {
          spans = record {
            span = 91 ∷ s.span;
            splits = whole ∙ ap (λ z. 91 ∷ z) s.splits;
            copied = array_copied d bytes rest [] (91 ∷ s.span) b inside is (codes "[") q depth_left refl (shifted (array_at any (d - 1)) elements_text inside rest (codes "[") s.span s.copied);
          };
          first = no_space 91 bytes inside whole refl;
        }

    pub object_spans : b ≡ 123 → d ≢ 0 → Spans (object_at any (d - 1)) members_text inside rest → SpansFirst (value_at any d) json_text bytes rest
    object_spans q depth_left s =
        let whole : bytes ≡ 123 ∷ inside = is ∙ ap (λ z. z ∷ inside) q in
        record {
          spans = record {
            span = 123 ∷ s.span;
            splits = whole ∙ ap (λ z. 123 ∷ z) s.splits;
            copied = object_copied d bytes rest [] (123 ∷ s.span) b inside is (codes "{") q depth_left refl (shifted (object_at any (d - 1)) members_text inside rest (codes "{") s.span s.copied);
          };
          first = no_space 123 bytes inside whole refl;
        }

colon_is : (name_end following : List ℕ) → name_end ≡ 58 ∷ following → Some following ≡ after_word (58 ∷ []) (skip name_end)
unfolding skip after_word
colon_is name_end following h = rw h refl

pub member_spans : (d : ℕ) (bytes name_end following rest : List ℕ) → SpansFirst (name_at any) quoted bytes name_end → name_end ≡ codes ":" ++ following → SpansFirst (value_at any d) json_text following rest
    → SpansFirst (member_at any (value_at any d)) whole_member bytes rest
member_spans d bytes name_end following rest n colon v =
    let name = n.spans.span in
    let value = v.spans.span in
    record {
      spans = record {
        span = (name ++ codes ":") ++ value;
        splits = n.spans.splits ∙ ap (λ z. name ++ z) (colon ∙ ap (λ z. 58 ∷ z) v.spans.splits) ∙ sym (append_assoc name (codes ":") (value ++ rest)) ∙ sym (append_assoc (name ++ codes ":") value rest);
        copied = member_copied d bytes name_end following rest [] name (name ++ codes ":") ((name ++ codes ":") ++ value) n.spans.copied (colon_is name_end following colon) refl
            (subst (λ z. Copies (value_at any d) json_text z rest (name ++ codes ":") ((name ++ codes ":") ++ value)) (sym v.first) (shifted (value_at any d) json_text following rest (name ++ codes ":") value v.spans.copied));
      };
      first = n.first;
    }

-- ---- lists

mark_is : (b : ℕ) (following more : List ℕ) → following ≡ b ∷ more → is_space b ≡ false → skip following ≡ b ∷ more
mark_is b following more h k = no_space b following more h k ∙ h

-- all bytes are left as long as nothing was passed, and then there was no white space before what was passed first
abbrev pub First : ℕ → List ℕ → List ℕ → Type 0
First zero inside rest = rest ≡ inside
First (suc i) inside rest = skip inside ≡ inside

passed_first : (i : ℕ) (inside rest : List ℕ) → First i inside rest → skip rest ≡ rest → skip inside ≡ inside
passed_first zero inside rest h k = subst (λ z. skip z ≡ z) h k
passed_first (suc i) inside rest h k = h

module _ {A : Type 0} (close : ℕ) (item : Parse A) (written : A → List ℕ) where
  -- the things so far stand as they are written, with a comma after each
  pub record SpansSoFar (n i : ℕ) (inside rest : List ℕ) : Type 0 where
    pub now : List ℕ
    pub so_far : lists.SoFar close item written n i inside rest [] now
    pub splits : inside ≡ now ++ rest
    pub first : First i inside rest

  pub starts : (n : ℕ) (inside : List ℕ) → SpansSoFar n 0 inside inside
  starts n inside = record { now = []; so_far = lists.starts close item written n inside []; splits = refl; first = refl }

  module _ (n i : ℕ) (inside rest : List ℕ) (s : SpansSoFar n i inside rest) (lt : i < n) (following : List ℕ) (c : SpansFirst item written rest following) (b : ℕ) (more : List ℕ) (mark : following ≡ b ∷ more) where
    abbrev mid : List ℕ
    mid = s.now ++ c.spans.span

    abbrev next : List ℕ
    next = mid ++ b ∷ []

    item_copied : Copies item written (skip rest) following s.now mid
    item_copied = subst (λ z. Copies item written z following s.now mid) (sym c.first) (shifted item written rest following s.now c.spans.span c.spans.copied)

    splits_so : inside ≡ next ++ more
    splits_so = s.splits ∙ ap (λ z. s.now ++ z) (c.spans.splits ∙ ap (λ z. c.spans.span ++ z) mark) ∙ sym (append_assoc s.now c.spans.span (b ∷ more)) ∙ sym (append_assoc mid (b ∷ []) more)

    first_so : skip inside ≡ inside
    first_so = passed_first i inside rest s.first c.first

    one_more : (m : ℕ) → m ≡ suc i → First m inside more
    one_more m is = subst (λ k. First k inside more) (sym is) first_so

    pub goes_on : b ≡ 44 → SpansSoFar n (i + 1) inside more
    goes_on comma = record {
      now = next;
      so_far = lists.goes_on close item written n i inside rest [] s.now s.so_far lt following mid item_copied b more next (mark_is b following more mark (rw comma refl)) refl comma;
      splits = splits_so;
      first = one_more (i + 1) (omega arith);
    }

    pub ends : eqb close 44 ≡ false → is_space close ≡ false → b ≡ close → SpansFirst (list_at close item n) (lists.list_text close item written) inside more
    ends other space is = record {
      spans = record {
        span = next;
        splits = splits_so;
        copied = lists.ends close item written n i inside rest [] s.now s.so_far lt following mid item_copied b more next (mark_is b following more mark (rw is space)) refl other is;
      };
      first = first_so;
    }

  closing : (inside rest : List ℕ) → is_space close ≡ false → inside ≡ close ∷ rest → Some rest ≡ after_word (close ∷ []) (skip inside)
  unfolding after_word
  closing inside rest space h = sym (ap (after_word (close ∷ [])) (no_space close inside rest h space ∙ h) ∙ rw (eq-eqb close close refl) refl)

  pub none_spans : (inside rest : List ℕ) → is_space close ≡ false → inside ≡ close ∷ rest → Spans (items_at close item) (lists.list_text close item written) inside rest
  none_spans inside rest space h = record { span = close ∷ []; splits = h; copied = lists.none_copied close item written inside rest [] (close ∷ []) (closing inside rest space h) refl }

  pub some_spans : (inside rest : List ℕ) → None ≡ after_word (close ∷ []) inside → SpansFirst (list_at close item (length inside)) (lists.list_text close item written) inside rest
      → Spans (items_at close item) (lists.list_text close item written) inside rest
  some_spans inside rest h s = record {
    span = s.spans.span;
    splits = s.spans.splits;
    copied = lists.some_copied close item written inside rest [] s.spans.span (h ∙ ap (λ z. after_word (close ∷ []) z) (sym s.first)) s.spans.copied;
  }
