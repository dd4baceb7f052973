-- The members of a topology, seen one after another.
use Rattle.std.proofs.Common.{◌≡◌, ℕ, true, false, List, [], ◌∷◌, ◌++◌, Option, Result, refl, sym, subst}
use Rattle.std.specs.Prelude.{bytes_eq, codes}
use Rattle.std.specs.Borrow.{Bor}
use Rattle.json_value.specs.declared.json.Json.{Json}
use Rattle.json_value.specs.Members.{Members, named}
use Rattle.topojson_types.specs.declared.transform.Transform.{Transform}
use Rattle.topojson_meaning.specs.declared.fault.TopoFault.{TopoFault}
use Rattle.topojson_decoder.specs.declared.index.By.{By}
use Rattle.topojson_decoder.specs.declared.index.FoundArcs.{FoundArcs}
use Rattle.topojson_decoder.specs.declared.index.Index.{Index}
use Rattle.json_cursor.specs.declared.occurrence.Occurrence.{Occurrence}
use Rattle.json_cursor.specs.declared.occurrence.Occurrence.TheVariants.{Never, Once, Again}
use Rattle.topojson_decoder.specs.Index.{AreArcs, IsIndex, transform_by, unread}
use Rattle.topojson_decoder.specs.Members.{BeginsAt, IsOccurrence, see}
use Rattle.topojson_decoder.specs.Transforms.{IsTransformOf}
use Rattle.topojson_decoder.proofs.MemberOccurrences.{no_other, passes, sees}

-- nothing was seen of no members
pub no_index : (start : By) (d : ℕ) → IsIndex start d [] (record { kind = Never; transform = Never; arcs = Never; objects = Never })
unfolding named
no_index start d = record { kind = refl; transform = refl; arcs = refl; objects = refl }

-- where arcs stand is known whatever the transform is
unread_seen : (start : By) (d : ℕ) (t u : Option (Option Transform)) (vs : List Json) (s : Occurrence FoundArcs) → IsOccurrence (AreArcs start t d) vs s → IsOccurrence (AreArcs start u d) vs (unread s)
unread_seen start d t u vs Never h = h
unread_seen start d t u vs (Once x) (v, same, k) = (v, same, record { prefix = k.prefix; read = tt })
unread_seen start d t u vs Again h = h

module _ (start : By) (d : ℕ) (ms : Members) (i : Index) (name : List ℕ) (v : Json) (h : IsIndex start d ms i) where
  abbrev more : Members
  more = ms ++ (name, v) ∷ []

  abbrev Arcs : Json → FoundArcs → Type 0
  Arcs = AreArcs start (transform_by i.transform) d

  passes_type : bytes_eq name (codes "type") ≡ false → IsOccurrence (BeginsAt d) (named (codes "type") more) i.kind
  passes_type other = passes (BeginsAt d) (codes "type") ms name v i.kind h.kind other

  passes_transform : bytes_eq name (codes "transform") ≡ false → IsOccurrence IsTransformOf (named (codes "transform") more) i.transform
  passes_transform other = passes IsTransformOf (codes "transform") ms name v i.transform h.transform other

  passes_arcs : bytes_eq name (codes "arcs") ≡ false → IsOccurrence Arcs (named (codes "arcs") more) i.arcs
  passes_arcs other = passes Arcs (codes "arcs") ms name v i.arcs h.arcs other

  passes_objects : bytes_eq name (codes "objects") ≡ false → IsOccurrence (BeginsAt d) (named (codes "objects") more) i.objects
  passes_objects other = passes (BeginsAt d) (codes "objects") ms name v i.objects h.objects other

  pub sees_type : (x : Bor (List ℕ)) (s : Occurrence (Bor (List ℕ))) → s ≡ see i.kind x → bytes_eq name (codes "type") ≡ true → BeginsAt d v x
      → IsIndex start d more (record { kind = s; transform = i.transform; arcs = i.arcs; objects = i.objects })
  sees_type x s is same k = record {
    kind = subst (IsOccurrence (BeginsAt d) (named (codes "type") more)) (sym is) (sees (BeginsAt d) (codes "type") ms name v i.kind h.kind x same k);
    transform = passes_transform (no_other name (codes "type") (codes "transform") same refl);
    arcs = passes_arcs (no_other name (codes "type") (codes "arcs") same refl);
    objects = passes_objects (no_other name (codes "type") (codes "objects") same refl);
  }

  pub sees_transform : (x : Result (Option Transform) TopoFault) (s : Occurrence (Result (Option Transform) TopoFault)) (arcs : Occurrence FoundArcs) → s ≡ see i.transform x → arcs ≡ unread i.arcs → bytes_eq name (codes "transform") ≡ true → IsTransformOf v x
      → IsIndex start d more (record { kind = i.kind; transform = s; arcs = arcs; objects = i.objects })
  sees_transform x s arcs is a same k = record {
    kind = passes_type (no_other name (codes "transform") (codes "type") same refl);
    transform = subst (IsOccurrence IsTransformOf (named (codes "transform") more)) (sym is) (sees IsTransformOf (codes "transform") ms name v i.transform h.transform x same k);
    arcs = subst (IsOccurrence (AreArcs start (transform_by s) d) (named (codes "arcs") more)) (sym a) (unread_seen start d (transform_by i.transform) (transform_by s) (named (codes "arcs") more) i.arcs (passes_arcs (no_other name (codes "transform") (codes "arcs") same refl)));
    objects = passes_objects (no_other name (codes "transform") (codes "objects") same refl);
  }

  pub sees_arcs : (x : FoundArcs) (s : Occurrence FoundArcs) → s ≡ see i.arcs x → bytes_eq name (codes "arcs") ≡ true → AreArcs start (transform_by i.transform) d v x
      → IsIndex start d more (record { kind = i.kind; transform = i.transform; arcs = s; objects = i.objects })
  sees_arcs x s is same k = record {
    kind = passes_type (no_other name (codes "arcs") (codes "type") same refl);
    transform = passes_transform (no_other name (codes "arcs") (codes "transform") same refl);
    arcs = subst (IsOccurrence Arcs (named (codes "arcs") more)) (sym is) (sees Arcs (codes "arcs") ms name v i.arcs h.arcs x same k);
    objects = passes_objects (no_other name (codes "arcs") (codes "objects") same refl);
  }

  pub sees_objects : (x : Bor (List ℕ)) (s : Occurrence (Bor (List ℕ))) → s ≡ see i.objects x → bytes_eq name (codes "objects") ≡ true → BeginsAt d v x
      → IsIndex start d more (record { kind = i.kind; transform = i.transform; arcs = i.arcs; objects = s })
  sees_objects x s is same k = record {
    kind = passes_type (no_other name (codes "objects") (codes "type") same refl);
    transform = passes_transform (no_other name (codes "objects") (codes "transform") same refl);
    arcs = passes_arcs (no_other name (codes "objects") (codes "arcs") same refl);
    objects = subst (IsOccurrence (BeginsAt d) (named (codes "objects") more)) (sym is) (sees (BeginsAt d) (codes "objects") ms name v i.objects h.objects x same k);
  }

  pub sees_other : bytes_eq name (codes "type") ≡ false → bytes_eq name (codes "transform") ≡ false → bytes_eq name (codes "arcs") ≡ false → bytes_eq name (codes "objects") ≡ false → IsIndex start d more i
  sees_other a b c e = record { kind = passes_type a; transform = passes_transform b; arcs = passes_arcs c; objects = passes_objects e }
