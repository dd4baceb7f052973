-- What a reader answers of a part, as what it answers of the whole.
use Rattle.std.proofs.Common.{◌≡◌, ℕ, List, Option, Some, None, Ok, Err, refl, sym, ap, ◌∙◌}
use Rattle.json_value.specs.Reading.{◌>>=◌}
use Rattle.json_value.specs.Readers.{Counting, and_then}
use Rattle.json_reading.specs.declared.fault.Fault.{Fault}
use Rattle.json_reading.specs.declared.fault.Fault.TheVariants as text
use Rattle.json_reading.specs.Gives.{Fails}
use Rattle.json_reading.proofs.Steps.{pair_is}
use Rattle.json_cursor.specs.declared.stop.Stop.{Stop}
use Rattle.json_cursor.specs.declared.stop.Stop.TheVariants as stop
use Rattle.json_cursor.specs.Answers.{Reads, Stops, stop_of}

-- ---- what stands after what was found

-- where something was found in two steps, the first found something
pub bound : {V W : Type 0} (prefix : Option (V × List ℕ)) (next : V → List ℕ → Option (W × List ℕ)) (w : W) (rest : List ℕ) → (prefix >>= λ x. next x.0 x.1) ≡ Some (w, rest)
    → (v : V) × ((after : List ℕ) × ((prefix ≡ Some (v, after)) × (next v after ≡ Some (w, rest))))
bound None next w rest h = absurd cc
bound (Some x) next w rest h = (x.0, (x.1, (refl, h)))

-- where this was found, that is made of it
abbrev pub made : {V W : Type 0} → (V → W) → Option (V × List ℕ) → Option (W × List ℕ)
made g prefix = prefix >>= λ x. Some (g x.0, x.1)

pub unmade : {V W : Type 0} (g : V → W) (prefix : Option (V × List ℕ)) (w : W) (rest : List ℕ) → made g prefix ≡ Some (w, rest) → (v : V) × ((prefix ≡ Some (v, rest)) × (w ≡ g v))
unmade g None w rest h = absurd cc
unmade g (Some x) w rest h = let e = pair_is (g x.0) x.1 (w, rest) h in (x.0, (ap (λ r. Some (x.0, r)) e.1, sym e.0))

pub made_found : {V W : Type 0} (g : V → W) (whole : Option (W × List ℕ)) (prefix : Option (V × List ℕ)) → whole ≡ made g prefix → (v : V) (rest : List ℕ) → prefix ≡ Some (v, rest) → whole ≡ Some (g v, rest)
made_found g whole prefix is v rest found = is ∙ ap (made g) found

-- what is read of the part with the counts there is what is read of the whole
module _ {C E V W B : Type 0} (g : V → W) (read : W → Counting C E B) (part : V → Counting C E B) (whole : Option (W × List ℕ)) (prefix : Option (V × List ℕ)) (is : whole ≡ made g prefix) (old mid : C) (law : (v : V) (rest : List ℕ) → prefix ≡ Some (v, rest) → read (g v) old ≡ part v mid) where
  pub made_reads : (x : B) (rest : List ℕ) (new : C) → Reads part prefix x rest mid new → Reads read whole x rest old new
  made_reads x rest new r = record { value = g r.value; prefix_is = is ∙ ap (made g) r.prefix_is; means = law r.value rest r.prefix_is ∙ r.means }

  pub made_stops : (s : Stop E) → Stops part prefix mid s → Stops read whole old s
  made_stops (stop.Fault e) h = λ w rest found. let u = unmade g prefix w rest (sym is ∙ found) in ap (λ z. read z old) u.1.1 ∙ law u.0 rest u.1.0 ∙ h u.0 rest u.1.0
  made_stops stop.NoValue h = is ∙ ap (made g) h
  made_stops stop.Memory h = tt

-- ---- how readers stop

-- a fault of the text is no value
pub text_stops : {C E V B : Type 0} (read : V → Counting C E B) (prefix : Option (V × List ℕ)) (old : C) (fault : Fault) → Fails fault prefix → Stops read prefix old (stop_of fault)
text_stops read prefix old (text.Malformed why left) h = h
text_stops read prefix old text.Memory h = tt

-- a whole has no value where a part of it stops reading
pub part_stops : {C E V W B : Type 0} (read : W → Counting C E B) (prefix : Option (V × List ℕ)) (whole : Option (W × List ℕ)) (old : C) (fault : Fault) → (prefix ≡ None → whole ≡ None) → Fails fault prefix → Stops read whole old (stop_of fault)
part_stops read prefix whole old (text.Malformed why left) law h = law h
part_stops read prefix whole old text.Memory law h = tt

-- what was found is whatever stands there
pub found_stops : {C E V B : Type 0} (read : V → Counting C E B) (prefix : Option (V × List ℕ)) (old : C) (v : V) (rest : List ℕ) (e : E) → prefix ≡ Some (v, rest) → read v old ≡ Err e → Stops read prefix old (stop.Fault e)
found_stops read prefix old v rest e is h w end found =
    let same = pair_is v rest (w, end) (sym is ∙ found) in
    ap (λ z. read z old) (sym same.0) ∙ h

-- what stops a reader stops what goes on with what it gives
pub then_stops : {C E V A B : Type 0} (m : V → Counting C E A) (f : A → Counting C E B) (read : V → Counting C E B) (prefix : Option (V × List ℕ)) (old : C) → ((v : V) → read v old ≡ and_then f (m v old))
    → (s : Stop E) → Stops m prefix old s → Stops read prefix old s
then_stops m f read prefix old law (stop.Fault e) h = λ v rest found. law v ∙ ap (and_then f) (h v rest found)
then_stops m f read prefix old law stop.NoValue h = h
then_stops m f read prefix old law stop.Memory h = tt

-- what goes on with what a reader gives
module _ {C E V A B : Type 0} (m : V → Counting C E A) (f : A → Counting C E B) (read : V → Counting C E B) (prefix : Option (V × List ℕ)) (old mid : C) (law : (v : V) → read v old ≡ and_then f (m v old)) (x : A) (rest : List ℕ) (r : Reads m prefix x rest old mid) where
  pub then_reads : (y : B) (new : C) → f x mid ≡ Ok (y, new) → Reads read prefix y rest old new
  then_reads y new h = record { value = r.value; prefix_is = r.prefix_is; means = law r.value ∙ rw r.means h }

  pub then_faults : (e : E) → f x mid ≡ Err e → Stops read prefix old (stop.Fault e)
  then_faults e h = found_stops read prefix old r.value rest e r.prefix_is (law r.value ∙ rw r.means h)
