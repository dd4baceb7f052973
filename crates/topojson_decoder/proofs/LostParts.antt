-- What was leaped over, and indexes of which it isn't there.
use Rattle.std.proofs.Common.{◌≡◌, ℕ, ◌+◌, ◌<◌, ◌≤◌, ◌⊎◌, inl, inr, List, [], ◌∷◌, Option, Some, None, Ok, Err, refl, sym, ap, subst, ◌∙◌}
use Rattle.std.specs.Prelude.{Result}
use Rattle.std.specs.Borrow.{Bor}
use Rattle.json_value.specs.declared.json.Json.{Json}
use Rattle.json_value.specs.Reading.{◌>>=◌, skip, after_word}
use Rattle.json_value.specs.Members.{Members}
use Rattle.json_reading.specs.declared.fault.Fault.{Fault}
use Rattle.json_reading.specs.declared.fault.Fault.TheVariants as text
use Rattle.json_reading.specs.declared.fault.Why.TheVariants as why
use Rattle.json_reading.specs.Gives.{Fails}
use Rattle.json_reading.proofs.Steps.{none_or_some}
use Rattle.json_cursor.specs.Arrays.{prefix_value}
use Rattle.json_cursor.specs.Members.{prefix_member}
use Rattle.json_cursor.specs.Answers.{Stops}
use Rattle.json_cursor.specs.declared.stop.Stop.{Stop}
use Rattle.json_cursor.specs.declared.stop.Stop.TheVariants as stop
use Rattle.json_cursor.proofs.MemberParts as part
use Rattle.json_value.specs.Readers.{Counting}
use Rattle.topojson_meaning.specs.declared.fault.TopoFault.{TopoFault}
use Rattle.geojson_types.specs.declared.counts.Counts.{Counts}
use Rattle.topojson_types.specs.declared.transform.Transform.{Transform}
use Rattle.topojson_decoder.specs.declared.index.By.{By}
use Rattle.topojson_decoder.specs.declared.index.FoundArcs.{FoundArcs}
use Rattle.topojson_decoder.specs.declared.index.Index.{Index}
use Rattle.json_cursor.specs.declared.occurrence.Occurrence.{Occurrence}
use Rattle.json_cursor.specs.declared.occurrence.Occurrence.TheVariants.{Never, Once, Again}
use Rattle.topojson_decoder.specs.Index.{EndsAt, FindsArcs, GoesOnOrLoses, IsIndex, IsLost, NoArcs, NoObjects, TakesAllOrLoses, TakesOrLoses, unread}
use Rattle.topojson_decoder.specs.Members.{see}
use Rattle.topojson_decoder.proofs.MemberOccurrences.{member_goes_on}

-- nothing stands there, or something that ends where it was found to end
pub here : (d : ℕ) (bytes : List ℕ) (rest : Bor (List ℕ)) → EndsAt d bytes (Ok rest) → (prefix_value d bytes ≡ None) ⊎ ((v : Json) × (prefix_value d bytes ≡ Some (v, rest.now)))
here d bytes rest h = elim (none_or_some (prefix_value d bytes)) [
  | inl none ↦ inl none
  | inr some ↦ inr (some.0.0, some.1 ∙ ap (λ (end : List ℕ). Some (some.0.0, end)) (h some.0.0 some.0.1 some.1))
]

pub found : (start : By) (t : Option (Option Transform)) (d : ℕ) (bytes rest : Bor (List ℕ)) → EndsAt d bytes.now (Ok rest) → FindsArcs start t d bytes.now (Ok (record { prefix = bytes; read = None }, rest))
found start t d bytes rest h = elim (here d bytes.now rest h) [
  | inl none ↦ inr (none, (none, refl))
  | inr some ↦ inl (some.0, some.1, record { prefix = (rest.now, some.1); read = tt })
]

-- ---- what was lost stays so

no_arcs_seen : (d : ℕ) (s : Occurrence FoundArcs) (x : FoundArcs) → NoArcs d s → NoArcs d (see s x)
no_arcs_seen d Never x h = absurd h
no_arcs_seen d (Once y) x h = tt
no_arcs_seen d Again x h = tt

no_arcs_more : (d : ℕ) (s : Occurrence FoundArcs) (x : FoundArcs) → NoArcs d (Once x) → NoArcs d (see s x)
no_arcs_more d Never x h = h
no_arcs_more d (Once y) x h = tt
no_arcs_more d Again x h = tt

no_arcs_unread : (d : ℕ) (s : Occurrence FoundArcs) → NoArcs d s → NoArcs d (unread s)
no_arcs_unread d Never h = absurd h
no_arcs_unread d (Once y) h = (h.0, refl)
no_arcs_unread d Again h = tt

no_objects_seen : (d : ℕ) (s : Occurrence (Bor (List ℕ))) (x : Bor (List ℕ)) → NoObjects d s → NoObjects d (see s x)
no_objects_seen d Never x h = absurd h
no_objects_seen d (Once y) x h = tt
no_objects_seen d Again x h = tt

no_objects_more : (d : ℕ) (s : Occurrence (Bor (List ℕ))) (x : Bor (List ℕ)) → prefix_value d x.now ≡ None → NoObjects d (see s x)
no_objects_more d Never x h = h
no_objects_more d (Once y) x h = tt
no_objects_more d Again x h = tt

module _ (d : ℕ) (arcs : Occurrence FoundArcs) (objects : Occurrence (Bor (List ℕ))) where
  abbrev Lost : Type 0
  Lost = NoArcs d arcs ⊎ NoObjects d objects

  module _ (next : Occurrence FoundArcs) where
    pub stays_unread : next ≡ unread arcs → Lost → NoArcs d next ⊎ NoObjects d objects
    stays_unread a (inl h) = inl (subst (NoArcs d) (sym a) (no_arcs_unread d arcs h))
    stays_unread a (inr h) = inr h

    module _ (x : FoundArcs) (a : next ≡ see arcs x) where
      pub stays_arcs : Lost → NoArcs d next ⊎ NoObjects d objects
      stays_arcs (inl h) = inl (subst (NoArcs d) (sym a) (no_arcs_seen d arcs x h))
      stays_arcs (inr h) = inr h

      -- there are more of which none is there
      pub arcs_lost : NoArcs d (Once x) → NoArcs d next ⊎ NoObjects d objects
      arcs_lost h = inl (subst (NoArcs d) (sym a) (no_arcs_more d arcs x h))

  module _ (next : Occurrence (Bor (List ℕ))) (x : Bor (List ℕ)) (o : next ≡ see objects x) where
    pub stays_objects : Lost → NoArcs d arcs ⊎ NoObjects d next
    stays_objects (inl h) = inl h
    stays_objects (inr h) = inr (subst (NoObjects d) (sym o) (no_objects_seen d objects x h))

    pub objects_lost : prefix_value d x.now ≡ None → NoArcs d arcs ⊎ NoObjects d next
    objects_lost h = inr (subst (NoObjects d) (sym o) (no_objects_more d objects x h))

-- ---- a member, as soon as its name was found

module _ (start : By) (d : ℕ) (before after : Index) (bytes name value : List ℕ) (named : prefix_member d bytes ≡ (prefix_value d value >>= λ x. Some ((name, x.0), x.1))) where
  pub member_goes_on_or_loses : (answer : Result (Bor (List ℕ)) Fault) → GoesOnOrLoses start d name before after value answer → TakesOrLoses start d before after bytes answer
  member_goes_on_or_loses (Ok rest) (inl t, stay) = (inl (member_goes_on (IsIndex start d) d before after bytes name value named (Ok rest) t), stay)
  member_goes_on_or_loses (Ok rest) (inr (none, lost), stay) = (inr (named ∙ rw none refl, lost), stay)
  member_goes_on_or_loses (Err (text.Malformed why left)) h = named ∙ rw h refl
  member_goes_on_or_loses (Err text.Memory) h = tt

-- ---- the loop

module _ (start : By) (d n : ℕ) (total : Option (Members × List ℕ)) (first : Index) where
  abbrev SoFar : ℕ → List ℕ → Index → Type 0
  SoFar = part.MembersSoFar (IsIndex start d) d n total first

  -- what was seen of the members so far, or none of what follows counts, since there is no object
  abbrev pub SeenSoFar : ℕ → List ℕ → Index → Type 0
  SeenSoFar i rest now = SoFar i rest now ⊎ ((total ≡ None) × IsLost d now)

  module _ (i : ℕ) (rest : List ℕ) (now : Index) (s : SeenSoFar i rest now) where
    nothing : (f : Fault) → total ≡ None → Fails f total
    nothing (text.Malformed why left) h = h
    nothing text.Memory h = tt

    pub turns_over : n ≤ i → total ≡ None
    turns_over le = elim s [
      | inl h ↦ part.turns_over (IsIndex start d) d n total first i rest now h le
      | inr h ↦ h.0
    ]

    module _ (lt : i < n) where
      pub no_member : (f : Fault) → Fails f (prefix_member d (skip rest)) → Fails f total
      no_member f k = elim s [
        | inl h ↦ part.no_member (IsIndex start d) d n total first i rest now h lt f k
        | inr h ↦ nothing f h.0
      ]

      none_there : SoFar i rest now → prefix_member d (skip rest) ≡ None → total ≡ None
      none_there h k = part.no_member (IsIndex start d) d n total first i rest now h lt (text.Malformed why.Syntax 0) k

      module _ (next : Index) (after : Bor (List ℕ)) (t : TakesOrLoses start d now next (skip rest) (Ok after)) where
        pub ends : (end : Bor (List ℕ)) → Some end.now ≡ after_word (125 ∷ []) (skip after.now) → TakesAllOrLoses start d total first next (Ok end)
        ends end e = elim s [
          | inl h ↦ elim t.0 [
            | inl m ↦ inl (part.ends (IsIndex start d) d n total first i rest now h lt next after.now m end.now e)
            | inr m ↦ inr (none_there h m.0, m.1)
          ]
          | inr h ↦ inr (h.0, t.1 h.1)
        ]

        pub goes_on : (more : List ℕ) → Some more ≡ after_word (44 ∷ []) (skip after.now) → SeenSoFar (i + 1) more next
        goes_on more e = elim s [
          | inl h ↦ elim t.0 [
            | inl m ↦ inl (part.goes_on (IsIndex start d) d n total first i rest now h lt next after.now m more e)
            | inr m ↦ inr (none_there h m.0, m.1)
          ]
          | inr h ↦ inr (h.0, t.1 h.1)
        ]

        pub breaks : None ≡ after_word (125 ∷ []) (skip after.now) → None ≡ after_word (44 ∷ []) (skip after.now) → total ≡ None
        breaks close comma = elim s [
          | inl h ↦ elim t.0 [
            | inl m ↦ part.breaks (IsIndex start d) d n total first i rest now h lt next after.now m close comma
            | inr m ↦ none_there h m.0
          ]
          | inr h ↦ h.0
        ]

-- where nothing stands, each way to stop is right
pub no_stop : {V B : Type 0} (read : V → Counting Counts TopoFault B) (prefix : Option (V × List ℕ)) (old : Counts) (why : Stop TopoFault) → prefix ≡ None → Stops read prefix old why
no_stop read prefix old (stop.Fault e) none = λ v rest is. let wrong = sym none ∙ is in absurd cc
no_stop read prefix old stop.NoValue none = none
no_stop read prefix old stop.Memory none = tt
