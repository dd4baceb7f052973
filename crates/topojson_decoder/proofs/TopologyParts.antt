-- The parts of a topology by where they stand.
use Rattle.std.proofs.Common.{◌≡◌, ℕ, List, [], ◌∷◌, Option, Some, None, Result, Ok, Err, refl, sym, ap, ◌∙◌}
use Rattle.std.specs.Prelude.{codes, bytes_eq, false, true}
use Rattle.std.specs.Borrow.{Bor}
use Rattle.json_value.specs.declared.json.Json.{Json}
use Rattle.json_value.specs.declared.json.Json.TheVariants as j
use Rattle.json_value.specs.Kinds.{object_of, text_of}
use Rattle.json_value.proofs.KindsOf.{object_of-object}
use Rattle.json_value.specs.Members.{Members, named}
use Rattle.json_reading.specs.declared.fault.Fault.{Fault}
use Rattle.json_reading.specs.declared.fault.Fault.TheVariants as fault
use Rattle.json_reading.specs.Gives.{Fails}
use Rattle.json_reading.proofs.Steps.{pair_is}
use Rattle.geojson_types.specs.declared.counts.Counts.{Counts}
use Rattle.topojson_types.specs.declared.transform.Transform.{Transform}
use Rattle.topojson_types.specs.Topologies.{Contents}
use Rattle.topojson_types.specs.declared.object.TopoObject.{TopoObject}
use Rattle.geometry.specs.Points.{Point}
use Rattle.topojson_meaning.specs.Arcs.{arc_list}
use Rattle.topojson_meaning.specs.Objects.{objects}
use Rattle.topojson_meaning.specs.declared.fault.TopoFault.{TopoFault}
use Rattle.topojson_meaning.specs.declared.fault.TopoFault.TheVariants as topo
use Rattle.topojson_meaning.specs.Members.{find, need, need_as}
use Rattle.topojson_meaning.specs.Reader.{Reader, ◌>>=◌, and_then, pure, or_fail}
use Rattle.topojson_meaning.specs.Topologies.{contents, contents_on, contents_after, value_contents, topology_type}
use Rattle.topojson_meaning.specs.Transforms.{transform_if}
use Rattle.json_cursor.specs.declared.stop.Stop.{Stop}
use Rattle.json_cursor.specs.declared.stop.Stop.TheVariants as stop
use Rattle.json_cursor.specs.Answers.{Reads, Stops, stop_of}
use Rattle.json_cursor.specs.Arrays.{prefix_value}
use Rattle.json_cursor.proofs.Steps.{found_stops}
use Rattle.topojson_decoder.specs.declared.keeping.Keeping.{Keeping}
use Rattle.topojson_decoder.specs.declared.topologies.Parts.{Parts}
use Rattle.json_cursor.specs.declared.occurrence.Occurrence.TheVariants.{Once}
use Rattle.topojson_decoder.specs.Kept.{kept_contents, kept_value_contents, making, of_contents}
use Rattle.topojson_decoder.specs.Members.{BeginsAt, IsOccurrence, Judges}
use Rattle.topojson_decoder.specs.Topologies.{Gives, NeededAt, type_in, transform_in}
use Rattle.topojson_decoder.proofs.KeptParts.{Unmade, made_alike, made_fault, unmade, unmade_fault}

-- ---- a part that stands there

-- what stands at a place is one value
pub one_value : (prefix : Option (Json × List ℕ)) (v w : Json) (rest end : List ℕ) → prefix ≡ Some (v, rest) → prefix ≡ Some (w, end) → v ≡ w
one_value prefix v w rest end h k = (pair_is v rest (w, end) (sym h ∙ k)).0

-- the only value of a name begins where it was seen
pub needed_prefix : (d : ℕ) (vs : List Json) (at : Bor (List ℕ)) → IsOccurrence (BeginsAt d) vs (Once at) → NeededAt d vs (Ok at)
needed_prefix d vs at (v, same, (rest, prefix)) = (v, rest, same, prefix)

-- no value of a name that is needed, or more than one, is a fault
pub needed_never : (d : ℕ) (vs : List Json) → vs ≡ [] → NeededAt d vs (Err topo.Missing)
needed_never d vs h = rw h refl

pub needed_again : (d : ℕ) (vs : List Json) (v w : Json) (us : List Json) → vs ≡ v ∷ w ∷ us → NeededAt d vs (Err topo.Duplicate)
needed_again d vs v w us h = rw h refl

module _ (name : List ℕ) (ms : Members) where
  pub need_fails : (d : ℕ) (e : TopoFault) → NeededAt d (named name ms) (Err e) → need name ms ≡ Err e
  unfolding need
  need_fails d e h = h

  need_one : (v : Json) → named name ms ≡ v ∷ [] → need name ms ≡ Ok v
  unfolding need
  need_one v h = rw h refl

  pub needed_value : (d : ℕ) (at : Bor (List ℕ)) (w : Json) (end : List ℕ) → NeededAt d (named name ms) (Ok at) → prefix_value d at.now ≡ Some (w, end) → need name ms ≡ Ok w
  needed_value d at w end h k = need_one w (h.2 ∙ ap (λ v. v ∷ []) (one_value (prefix_value d at.now) h.0 w h.1 end h.3 k))

-- where something stands no fault of the text is reported
pub no_text_fault : {X B : Type 0} (view : X → B) (read : Reader B) (old new : Counts) (prefix : Option (Json × List ℕ)) (v : Json) (rest : List ℕ) → prefix ≡ Some (v, rest) → (e : Fault) → Fails e prefix → Gives view read old new (Err (stop_of e))
no_text_fault view read old new prefix v rest h (fault.Malformed why left) k = let wrong = sym h ∙ k in absurd cc
no_text_fault view read old new prefix v rest h fault.Memory k = tt

-- ---- its type

module _ (ms : Members) (c : Counts) where
  pub no_type : (e : TopoFault) → need (codes "type") ms ≡ Err e → type_in ms c ≡ Err e
  no_type e h = rw h refl

  module _ (v : Json) (h : need (codes "type") ms ≡ Ok v) where
    pub no_text : text_of v ≡ None → type_in ms c ≡ Err topo.WrongKind
    no_text k = rw (h, k) refl

    module _ (name : List ℕ) (k : text_of v ≡ Some name) where
      pub other_type : bytes_eq name (codes "Topology") ≡ false → type_in ms c ≡ Err topo.NotTopology
      other_type l = rw (h, k, l) refl

      pub its_type : bytes_eq name (codes "Topology") ≡ true → type_in ms c ≡ Ok (tt, c)
      its_type l = rw (h, k, l) refl

-- ---- a part that is read of a value

module _ {B : Type 0} (name : List ℕ) (read : Json → Reader B) (ms : Members) (old : Counts) where
  pub part_fails : (e : TopoFault) → need name ms ≡ Err e → need_as name read ms old ≡ Err e
  part_fails e h = rw h refl

  pub part_is : (v : Json) → need name ms ≡ Ok v → need_as name read ms old ≡ read v old
  part_is v h = rw h refl

  pub part_missing : named name ms ≡ [] → need_as name read ms old ≡ Err topo.Missing
  part_missing h = part_fails topo.Missing (need_fails name ms 0 topo.Missing (needed_never 0 (named name ms) h))

  pub part_doubled : (v w : Json) (us : List Json) → named name ms ≡ v ∷ w ∷ us → need_as name read ms old ≡ Err topo.Duplicate
  part_doubled v w us h = part_fails topo.Duplicate (need_fails name ms 0 topo.Duplicate (needed_again 0 (named name ms) v w us h))

  -- what its value is judged as
  pub part_judged : (new : Counts) (v : Json) → named name ms ≡ v ∷ [] → (answer : Result B (Stop TopoFault)) → Judges (read v) old new answer → Gives (λ x. x) (need_as name read ms) old new answer
  part_judged new v h (Ok x) k = part_is v (need_one name ms v h) ∙ k
  part_judged new v h (Err (stop.Fault e)) k = part_is v (need_one name ms v h) ∙ k
  part_judged new v h (Err stop.NoValue) k = k
  part_judged new v h (Err stop.Memory) k = tt

-- a part of which a reader answers
pub part_gives : {X B : Type 0} (view : X → B) (name : List ℕ) (read : Json → Reader B) (ms : Members) (old new : Counts) (d : ℕ) (at : Bor (List ℕ)) → NeededAt d (named name ms) (Ok at) → (s : Stop TopoFault) → Stops read (prefix_value d at.now) old s
    → Gives view (need_as name read ms) old new (Err s)
part_gives view name read ms old new d at h (stop.Fault e) k = part_is name read ms old h.0 (needed_value name ms d at h.0 h.1 h h.3) ∙ k h.0 h.1 h.3
part_gives view name read ms old new d at h stop.NoValue k = let wrong = sym h.3 ∙ k in absurd cc
part_gives view name read ms old new d at h stop.Memory k = tt

pub part_reads : {B : Type 0} (name : List ℕ) (read : Json → Reader B) (ms : Members) (old new : Counts) (d : ℕ) (at : Bor (List ℕ)) (x : B) (rest : List ℕ) → NeededAt d (named name ms) (Ok at) → Reads read (prefix_value d at.now) x rest old new
    → need_as name read ms old ≡ Ok (x, new)
part_reads name read ms old new d at x rest h r = part_is name read ms old r.value (needed_value name ms d at r.value rest h r.prefix_is) ∙ r.means

-- ---- what is made of a part, and of them all

need_made_of : {V A B : Type 0} (f : A → B) (read : V → Reader A) (c : Counts) (r : Result V TopoFault) → (pure r >>= λ v. making f (read v)) c ≡ making f (pure r >>= read) c
need_made_of f read c (Ok v) = refl
need_made_of f read c (Err e) = refl

module _ {A B : Type 0} (f : A → B) (name : List ℕ) (read : Json → Reader A) (ms : Members) (c : Counts) where
  need_made : need_as name (λ v. making f (read v)) ms c ≡ making f (need_as name read ms) c
  need_made = need_made_of f read c (need name ms)

  pub unmade_part : (x : B) (d : Counts) → need_as name (λ v. making f (read v)) ms c ≡ Ok (x, d) → Unmade f (need_as name read ms c) x d
  unmade_part x d h = unmade f (need_as name read ms) c x d (sym need_made ∙ h)

  pub unmade_part_gives : (new : Counts) (s : Stop TopoFault) → Gives {X = B} (λ x. x) (need_as name (λ v. making f (read v)) ms) c new (Err s) → Gives {X = A} (λ x. x) (need_as name read ms) c new (Err s)
  unmade_part_gives new (stop.Fault e) h = unmade_fault f (need_as name read ms) c e (sym need_made ∙ h)
  unmade_part_gives new stop.NoValue h = h
  unmade_part_gives new stop.Memory h = tt

pub made_gives : {X A B : Type 0} (view : X → A) (other : X → B) (f : A → B) (read : Reader A) (old new : Counts) (s : Stop TopoFault) → Gives view read old new (Err s) → Gives other (making f read) old new (Err s)
made_gives view other f read old new (stop.Fault e) h = made_fault f read old e h
made_gives view other f read old new stop.NoValue h = h
made_gives view other f read old new stop.Memory h = tt

-- readers that read the same read a part the same
pub read_by : {B : Type 0} (name : List ℕ) (read other : Json → Reader B) → read ≡ other → (ms : Members) (c : Counts) → need_as name other ms c ≡ need_as name read ms c
read_by name read other same ms c = λ i. need_as name (sym same i) ms c

-- ---- its transform

module _ (ms : Members) (c : Counts) where
  pub no_transform : named (codes "transform") ms ≡ [] → transform_in ms c ≡ Ok (None, c)
  unfolding transform_if
  no_transform h = rw h refl

-- ---- all parts

module _ (ms : Members) (old : Counts) where
  by_name : (r : Result (List ℕ) TopoFault) → (pure r >>= λ name. topology_type name >>= λ _. contents_after ms) old ≡ and_then (λ _. contents_after ms) ((pure r >>= topology_type) old)
  by_name (Err e) = refl
  by_name (Ok name) = refl

  by_type : (r : Result Json TopoFault) → (pure r >>= λ t. pure (or_fail topo.WrongKind (text_of t)) >>= λ name. topology_type name >>= λ _. contents_after ms) old
      ≡ and_then (λ _. contents_after ms) ((pure r >>= λ t. pure (or_fail topo.WrongKind (text_of t)) >>= λ name. topology_type name) old)
  by_type (Err e) = refl
  by_type (Ok t) = by_name (or_fail topo.WrongKind (text_of t))

  contents_is : contents ms old ≡ and_then (λ _. contents_after ms) (type_in ms old)
  unfolding contents
  contents_is = by_type (need (codes "type") ms)

  by_found : (r : Result (Option Json) TopoFault) → (pure r >>= λ v. transform_if v >>= λ t. contents_on t ms) old ≡ and_then (λ t. contents_on t ms) ((pure r >>= transform_if) old)
  by_found (Err e) = refl
  by_found (Ok v) = refl

  after_is : contents_after ms old ≡ and_then (λ t. contents_on t ms) (transform_in ms old)
  after_is = by_found (find (codes "transform") ms)

  pub type_stops : (e : TopoFault) → type_in ms old ≡ Err e → contents ms old ≡ Err e
  type_stops e h = contents_is ∙ rw h refl

  module _ (typed : type_in ms old ≡ Ok (tt, old)) where
    pub transform_stops : (e : TopoFault) → transform_in ms old ≡ Err e → contents ms old ≡ Err e
    transform_stops e h = contents_is ∙ ap (and_then (λ _. contents_after ms)) typed ∙ after_is ∙ rw h refl

    pub then_on : (t : Option Transform) → transform_in ms old ≡ Ok (t, old) → contents ms old ≡ contents_on t ms old
    then_on t h = contents_is ∙ ap (and_then (λ _. contents_after ms)) typed ∙ after_is ∙ rw h refl

-- ---- how the parts stop

-- what the parts are, as a clause sees them
module _ {X : Type 0} (view : X → Contents) (ms : Members) (old : Counts) where
  pub type_stop_gives : (new : Counts) (s : Stop TopoFault) → Gives {X = Unit {0}} (λ x. x) (type_in ms) old old (Err s) → Gives view (contents ms) old new (Err s)
  type_stop_gives new (stop.Fault e) h = type_stops ms old e h
  type_stop_gives new stop.NoValue h = h
  type_stop_gives new stop.Memory h = tt

  module _ (typed : type_in ms old ≡ Ok (tt, old)) where
    module _ (t : Option Transform) (found : transform_in ms old ≡ Ok (t, old)) where
      arcs_by : (e : TopoFault) → need_as (codes "arcs") (arc_list t) ms old ≡ Err e → contents ms old ≡ Err e
      arcs_by e h = then_on ms old typed t found ∙ rw h refl

      pub arcs_stop_gives : (new mid : Counts) (s : Stop TopoFault) (u : Option Transform) → u ≡ t → Gives {X = List (List Point)} (λ x. x) (need_as (codes "arcs") (arc_list u) ms) old mid (Err s) → Gives view (contents ms) old new (Err s)
      arcs_stop_gives new mid (stop.Fault e) u same h = arcs_by e (ap (λ z. need_as (codes "arcs") (arc_list z) ms old) (sym same) ∙ h)
      arcs_stop_gives new mid stop.NoValue u same h = h
      arcs_stop_gives new mid stop.Memory u same h = tt

      module _ (arcs : List (List Point)) (mid : Counts) (read : need_as (codes "arcs") (arc_list t) ms old ≡ Ok (arcs, mid)) where
        objects_by : (e : TopoFault) → need_as (codes "objects") (objects t arcs) ms mid ≡ Err e → contents ms old ≡ Err e
        objects_by e h = then_on ms old typed t found ∙ rw (read, h) refl

        pub objects_stop_gives : (new : Counts) (s : Stop TopoFault) (u : Option Transform) → u ≡ t → (bs : List (List Point)) → objects u bs ≡ objects u arcs → Gives {X = List (List ℕ × TopoObject)} (λ x. x) (need_as (codes "objects") (objects u bs) ms) mid new (Err s) → Gives view (contents ms) old new (Err s)
        objects_stop_gives new (stop.Fault e) u same bs they h = objects_by e (ap (λ z. need_as (codes "objects") (objects z arcs) ms mid) (sym same) ∙ read_by (codes "objects") (objects u bs) (objects u arcs) they ms mid ∙ h)
        objects_stop_gives new stop.NoValue u same bs they h = h
        objects_stop_gives new stop.Memory u same bs they h = tt

module _ (ms : Members) (old : Counts) (typed : type_in ms old ≡ Ok (tt, old)) (t : Option Transform) (found : transform_in ms old ≡ Ok (t, old)) (arcs : List (List Point)) (mid : Counts) (read : need_as (codes "arcs") (arc_list t) ms old ≡ Ok (arcs, mid)) where
  pub all_read : (os : List (List ℕ × TopoObject)) (new : Counts) → need_as (codes "objects") (objects t arcs) ms mid ≡ Ok (os, new) → contents ms old ≡ Ok (record { objects = os; arcs = arcs; transform = t }, new)
  all_read os new h = then_on ms old typed t found ∙ rw (read, h) refl

-- ---- what is kept of the value

module _ (k : Keeping) (old : Counts) (prefix : Option (Json × List ℕ)) where
  no_object : (v : Json) → object_of v ≡ None → value_contents v old ≡ Err topo.NotTopology
  unfolding value_contents
  no_object v h = ap (λ o. (pure (or_fail topo.NotTopology o) >>= contents) old) h

  pub not_an_object : ((v : Json) (rest : List ℕ) → prefix ≡ Some (v, rest) → object_of v ≡ None) → Stops (kept_value_contents k) prefix old (stop.Fault topo.NotTopology)
  not_an_object h v rest is = made_fault (of_contents k) (value_contents v) old topo.NotTopology (no_object v (h v rest is))

  module _ (ms : Members) (rest : List ℕ) (is : prefix ≡ Some (j.Object ms, rest)) where
    whole_is : value_contents (j.Object ms) old ≡ contents ms old
    unfolding value_contents
    whole_is = ap (λ o. (pure (or_fail topo.NotTopology o) >>= contents) old) (object_of-object ms)

    object_is : kept_value_contents k (j.Object ms) old ≡ kept_contents k ms old
    object_is = made_alike (of_contents k) (value_contents (j.Object ms)) old (contents ms) whole_is

    pub object_reads : (t : Parts) (new : Counts) → kept_contents k ms old ≡ Ok (t, new) → Reads (kept_value_contents k) prefix t rest old new
    object_reads t new h = record { value = j.Object ms; prefix_is = is; means = object_is ∙ h }

    pub object_stops : {X : Type 0} (view : X → Parts) (new : Counts) (s : Stop TopoFault) → Gives view (kept_contents k ms) old new (Err s) → Stops (kept_value_contents k) prefix old s
    object_stops view new (stop.Fault e) h = found_stops (kept_value_contents k) prefix old (j.Object ms) rest e is (object_is ∙ h)
    object_stops view new stop.NoValue h = absurd h
    object_stops view new stop.Memory h = tt
