-- A transform by its members.
use Rattle.std.proofs.Common.{◌≡◌, ℕ, true, false, List, [], ◌∷◌, ◌++◌, Option, Some, None, Result, Ok, Err, refl, sym, subst, ap, ◌∙◌}
use Rattle.std.specs.Prelude.{bytes_eq, codes, is_some}
use Rattle.std.specs.Borrow.{Bor}
use Rattle.json_value.specs.declared.json.Json.{Json}
use Rattle.json_value.specs.declared.json.Json.TheVariants as j
use Rattle.json_value.specs.declared.json.Json.TheOpen.{Json-F}
use Rattle.json_value.specs.declared.json.Json.TheViews.{out-Json}
use Rattle.json_value.specs.Kinds.{array_of, number_of, object_in, object_of}
use Rattle.json_value.specs.Members.{Members, named}
use Rattle.geojson_types.specs.declared.counts.Counts.{Counts}
use Rattle.topojson_types.specs.declared.transform.Transform.{Transform}
use Rattle.topojson_meaning.specs.declared.fault.TopoFault.{TopoFault}
use Rattle.topojson_meaning.specs.declared.fault.TopoFault.TheVariants.{WrongKind}
use Rattle.topojson_meaning.specs.Arcs.{number_text}
use Rattle.topojson_meaning.specs.Members.{elements, need, need_as}
use Rattle.topojson_meaning.specs.Reader.{◌>>=◌, give, pure}
use Rattle.topojson_meaning.specs.Transforms.{texts, texts_in, transform_if, transform_in, transform_members, transform_number, transform_pair}
use Rattle.json_cursor.specs.Arrays.{array_by, prefix_value}
use Rattle.json_reading.specs.declared.fault.Fault.{Fault}
use Rattle.json_reading.specs.Passes.{Passes}
use Rattle.json_cursor.specs.Folds.{fold}
use Rattle.json_cursor.specs.Held.{IsHeld}
use Rattle.json_cursor.specs.Kinds.{kind_in, kind_of}
use Rattle.json_cursor.specs.declared.occurrence.Occurrence.{Occurrence}
use Rattle.json_cursor.specs.declared.occurrence.Occurrence.TheVariants.{Never, Once, Again}
use Rattle.topojson_decoder.specs.declared.transforms.NumberTexts.{NumberTexts}
use Rattle.topojson_decoder.specs.declared.transforms.TransformParts.{TransformParts}
use Rattle.topojson_decoder.specs.Members.{GoesOnWith, IsOccurrence, see}
use Rattle.topojson_decoder.specs.Transforms.{IsTexts, IsTransform, both_of, needed, other_transform, put, take, take_in}
use Rattle.topojson_decoder.proofs.MemberOccurrences.{no_other, passes, sees}

-- ---- the number texts of an array

abbrev none : NumberTexts
none = record { x = None; y = None }

-- both were read
full : (s t : List ℕ) (vs : List Json) (c : Counts) → fold take (record { x = Some s; y = Some t }) vs c ≡ Ok (record { x = Some s; y = Some t }, c)
unfolding fold
full s t [] c = refl
full s t (v ∷ vs) c = full s t vs c

-- what is read of an array, as the result that it is
abbrev reported : Result (NumberTexts × Counts) TopoFault → Result (List ℕ × List ℕ) TopoFault
reported (Ok x) = both_of (Ok x.0)
reported (Err e) = Err e

lone : (v : Json) (c e : Counts) (o : Option (List ℕ)) → number_of v ≡ o → texts_in (v ∷ []) e ≡ pure (reported (fold take none (v ∷ []) c)) e
unfolding fold number_text
lone v c e None h = rw h refl
lone v c e (Some t) h = rw h refl

two : (v w : Json) (vs : List Json) (c e : Counts) (o p : Option (List ℕ)) → number_of v ≡ o → number_of w ≡ p → texts_in (v ∷ w ∷ vs) e ≡ pure (reported (fold take none (v ∷ w ∷ vs) c)) e
unfolding fold number_text
two v w vs c e None p h k = rw h refl
two v w vs c e (Some s) None h k = rw (h, k) refl
two v w vs c e (Some s) (Some t) h k = rw (h, k, full s t vs c) refl

of_list : (vs : List Json) (c e : Counts) → texts_in vs e ≡ pure (reported (fold take none vs c)) e
of_list [] c e = unfold fold in refl
of_list (v ∷ []) c e = lone v c e (number_of v) refl
of_list (v ∷ w ∷ vs) c e = two v w vs c e (number_of v) (number_of w) refl refl

of_value : (v : Json) (c e : Counts) (o : Option (List Json)) → array_of v ≡ o → texts v e ≡ pure (reported (array_by WrongKind (fold take none) v c)) e
unfolding texts elements array_by
of_value v c e None h = rw h refl
of_value v c e (Some vs) h = rw h (of_list vs c e)

pub texts_held : (v : Json) (c d : Counts) (x : Result NumberTexts TopoFault) → IsHeld (array_by WrongKind (fold take none)) c d v x → IsTexts v (both_of x)
texts_held v c d (Ok s) h = λ e. of_value v c e (array_of v) refl ∙ ap (λ r. pure (reported r) e) h
texts_held v c d (Err f) h = λ e. of_value v c e (array_of v) refl ∙ ap (λ r. pure (reported r) e) h

-- an element, unless both were read
passes_in : (y : Option (List ℕ)) (s : NumberTexts) (v : Json) (c : Counts) → is_some y ≡ true → take_in y s v c ≡ Ok (s, c)
passes_in None s v c h = absurd cc
passes_in (Some u) s v c h = refl

pub passes_some : (s : NumberTexts) (v : Json) (c : Counts) → is_some s.y ≡ true → take s v c ≡ Ok (s, c)
passes_some s v c h = passes_in s.y s v c h

takes_in : (y : Option (List ℕ)) (s : NumberTexts) (v : Json) (c : Counts) → is_some y ≡ false → take_in y s v c ≡ (pure (number_text v) >>= λ t. give (put s t)) c
takes_in None s v c h = refl
takes_in (Some u) s v c h = absurd cc

module _ (s : NumberTexts) (v : Json) (c : Counts) (h : is_some s.y ≡ false) where
  pub takes_text : (t : List ℕ) → number_of v ≡ Some t → take s v c ≡ Ok (put s t, c)
  unfolding number_text
  takes_text t k = takes_in s.y s v c h ∙ rw k refl

  pub no_number : number_of v ≡ None → take s v c ≡ Err WrongKind
  unfolding number_text
  no_number k = takes_in s.y s v c h ∙ rw k refl

-- ---- what was seen

pub no_parts : IsTransform [] (record { scale = Never; translate = Never })
unfolding named
no_parts = record { scale = refl; translate = refl }

module _ (ms : Members) (parts : TransformParts) (name : List ℕ) (v : Json) (h : IsTransform ms parts) where
  abbrev more : Members
  more = ms ++ (name, v) ∷ []

  passes_scale : bytes_eq name (codes "scale") ≡ false → IsOccurrence IsTexts (named (codes "scale") more) parts.scale
  passes_scale other = passes IsTexts (codes "scale") ms name v parts.scale h.scale other

  passes_translate : bytes_eq name (codes "translate") ≡ false → IsOccurrence IsTexts (named (codes "translate") more) parts.translate
  passes_translate other = passes IsTexts (codes "translate") ms name v parts.translate h.translate other

  module _ (x : Result (List ℕ × List ℕ) TopoFault) (s : Occurrence (Result (List ℕ × List ℕ) TopoFault)) (are : IsTexts v x) where
    pub sees_scale : s ≡ see parts.scale x → bytes_eq name (codes "scale") ≡ true → IsTransform more (record { scale = s; translate = parts.translate })
    sees_scale is same = record {
      scale = subst (IsOccurrence IsTexts (named (codes "scale") more)) (sym is) (sees IsTexts (codes "scale") ms name v parts.scale h.scale x same are);
      translate = passes_translate (no_other name (codes "scale") (codes "translate") same refl);
    }

    pub sees_translate : s ≡ see parts.translate x → bytes_eq name (codes "translate") ≡ true → IsTransform more (record { scale = parts.scale; translate = s })
    sees_translate is same = record {
      scale = passes_scale (no_other name (codes "translate") (codes "scale") same refl);
      translate = subst (IsOccurrence IsTexts (named (codes "translate") more)) (sym is) (sees IsTexts (codes "translate") ms name v parts.translate h.translate x same are);
    }

  pub sees_other : bytes_eq name (codes "scale") ≡ false → bytes_eq name (codes "translate") ≡ false → IsTransform more parts
  sees_other a b = record { scale = passes_scale a; translate = passes_translate b }

-- a member of another name, whose value is passed over
pub passed : (d : ℕ) (name : List ℕ) (parts : TransformParts) (bytes : List ℕ) → bytes_eq name (codes "scale") ≡ false → bytes_eq name (codes "translate") ≡ false
    → (answer : Result (Bor (List ℕ)) Fault) → Passes answer (prefix_value d bytes) → GoesOnWith IsTransform d name parts parts bytes answer
passed d name parts bytes a b (Ok rest) (v, found) = record { value = v; prefix = found; holds = λ ms h. sees_other ms parts name v h a b }
passed d name parts bytes a b (Err fault) h = h

-- ---- the transform with these members

needed_is : (name : List ℕ) (ms : Members) (s : Occurrence (Result (List ℕ × List ℕ) TopoFault)) (c : Counts) → IsOccurrence IsTexts (named name ms) s → need_as name texts ms c ≡ pure (needed s) c
unfolding need
needed_is name ms Never c h = rw h refl
needed_is name ms (Once x) c (v, same, are) = rw same (are c)
needed_is name ms Again c (v, w, us, same) = rw same refl

-- what is needed, as it was seen
pub needed_by : (name : List ℕ) (ms : Members) (s : Occurrence (Result (List ℕ × List ℕ) TopoFault)) (c : Counts) (r : Result (List ℕ × List ℕ) TopoFault) → IsOccurrence IsTexts (named name ms) s → r ≡ needed s → need_as name texts ms c ≡ pure r c
needed_by name ms s c r h is = needed_is name ms s c h ∙ ap (λ z. pure z c) (sym is)

module _ (ms : Members) (c : Counts) where
  pub scale_fails : (e : TopoFault) → need_as (codes "scale") texts ms c ≡ Err e → transform_members ms c ≡ Err e
  unfolding transform_members
  scale_fails e h = rw h refl

  module _ (s : List ℕ × List ℕ) (scale : need_as (codes "scale") texts ms c ≡ Ok (s, c)) where
    pub translate_fails : (e : TopoFault) → need_as (codes "translate") texts ms c ≡ Err e → transform_members ms c ≡ Err e
    unfolding transform_members
    translate_fails e h = rw (scale, h) refl

    module _ (t : List ℕ × List ℕ) (translate : need_as (codes "translate") texts ms c ≡ Ok (t, c)) where
      pub scale_range : (e : TopoFault) → transform_pair s c ≡ Err e → transform_members ms c ≡ Err e
      unfolding transform_members
      scale_range e h = rw (scale, translate, h) refl

      module _ (x : List ℕ × List ℕ) (first : transform_pair s c ≡ Ok (x, c)) where
        pub translate_range : (e : TopoFault) → transform_pair t c ≡ Err e → transform_members ms c ≡ Err e
        unfolding transform_members
        translate_range e h = rw (scale, translate, first, h) refl

        pub transform_is : (y : List ℕ × List ℕ) → transform_pair t c ≡ Ok (y, c) → transform_members ms c ≡ Ok (record { scale = x; translate = y }, c)
        unfolding transform_members
        transform_is y h = rw (scale, translate, first, h) refl

-- ---- two numbers

module _ (ts : List ℕ × List ℕ) (c : Counts) where
  pub first_range : (e : TopoFault) → transform_number ts.0 ≡ Err e → transform_pair ts c ≡ Err e
  unfolding transform_pair
  first_range e h = rw h refl

  module _ (x : List ℕ) (first : transform_number ts.0 ≡ Ok x) where
    pub second_range : (e : TopoFault) → transform_number ts.1 ≡ Err e → transform_pair ts c ≡ Err e
    unfolding transform_pair
    second_range e h = rw (first, h) refl

    pub pair_is : (y : List ℕ) → transform_number ts.1 ≡ Ok y → transform_pair ts c ≡ Ok ((x, y), c)
    unfolding transform_pair
    pair_is y h = rw (first, h) refl

-- ---- the value

other_in : (x : Json-F Json) (c : Counts) → object_in x ≡ None → transform_in x c ≡ pure (other_transform (kind_in x)) c
other_in Json-F.Null c h = refl
other_in (Json-F.Bool b) c h = refl
other_in (Json-F.Number n) c h = refl
other_in (Json-F.Text t) c h = refl
other_in (Json-F.Array vs) c h = refl
other_in (Json-F.Object ms) c h = absurd cc

pub other : (v : Json) (c : Counts) → object_of v ≡ None → transform_if (Some v) c ≡ pure (other_transform (kind_of v)) c
unfolding object_of transform_if
other v c h = other_in (out-Json v) c h

module _ (v : Json) (ms : Members) (c : Counts) (is : v ≡ j.Object ms) where
  of_object : transform_if (Some v) c ≡ (transform_members ms >>= λ t. give (Some t)) c
  unfolding transform_if
  of_object = ap (λ w. transform_in (out-Json w) c) is ∙ ap (λ x. transform_in x c) (j.outs-Object ms)

  pub object_fails : (e : TopoFault) → transform_members ms c ≡ Err e → transform_if (Some v) c ≡ Err e
  object_fails e h = of_object ∙ rw h refl

  pub object_reads : (t : Transform) → transform_members ms c ≡ Ok (t, c) → transform_if (Some v) c ≡ Ok (Some t, c)
  object_reads t h = of_object ∙ rw h refl
