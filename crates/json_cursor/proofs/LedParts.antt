-- Elements that the first one leads.
use Rattle.std.proofs.Common.{◌≡◌, ℕ, ◌-◌, ◌<◌, Bool, if◌then◌else◌, List, [], ◌∷◌, Option, Some, None, Result, Ok, Err, refl, sym, ap, ◌∙◌}
use Rattle.std.specs.Prelude.{is_some, option_to_list}
use Rattle.json_value.specs.declared.json.Json.{Json}
use Rattle.json_value.specs.Reading.{Parse, skip, list_after, list_at}
use Rattle.json_value.specs.Readers.{Counting, and_then, give, gather}
use Rattle.json_cursor.specs.declared.stop.Stop.{Stop}
use Rattle.json_cursor.specs.Answers.{Reads, Stops}
use Rattle.json_cursor.specs.Arrays.{led, led_by}
use Rattle.json_cursor.specs.Folds.{fold, with_read}
use Rattle.json_cursor.proofs.Steps.{made, made_reads, made_stops, then_stops}
use Rattle.json_cursor.proofs.Lists.{ends, goes_on, breaks, first_stops}
use Rattle.json_cursor.proofs.ArrayParts.{following, folded}

-- where the first isn't left out
abbrev pub where_led : {B : Type 0} → Bool → List B → Option (List B)
where_led leads xs = if leads then Some xs else None

module _ {C E B : Type 0} (read : Json → Counting C E (List B)) (item : Parse Json) (n : ℕ) (bs : List ℕ) (some : 0 < n) (c : C) where
  led_law : (v : Json) (vs : List Json) (e : E) → read v c ≡ Err e → led_by read (v ∷ vs) c ≡ Err e
  led_law v vs e h = rw h refl

  pub leader_stops : (s : Stop E) → Stops read (item (skip bs)) c s → Stops (led_by read) (list_at 93 item n bs) c s
  leader_stops s h = first_stops item n bs some (led_by read) read c led_law s h

  module _ (first : Option B) (after : List ℕ) (mid : C) (r : Reads read (item (skip bs)) (option_to_list first) after c mid) where
    pub leader_breaks : ((more : Parse (List Json)) (v : Json) → list_after 93 more v (skip after) ≡ None) → list_at 93 item n bs ≡ None
    leader_breaks h = breaks item n bs some r.value after r.prefix_is (h (list_at 93 item (n - 1)) r.value)

    alone : (first : Option B) → led (option_to_list first) [] ≡ where_led (is_some first) (option_to_list first)
    alone None = refl
    alone (Some x) = refl

    pub leader_ends : (end : List ℕ) → skip after ≡ 93 ∷ end → Reads (led_by read) (list_at 93 item n bs) (where_led (is_some first) (option_to_list first)) end c mid
    unfolding gather
    leader_ends end h = record { value = r.value ∷ []; prefix_is = ends item n bs some r.value after r.prefix_is end h; means = rw r.means (ap (λ z. Ok (z, mid)) (alone first)) }

    module _ (more : List ℕ) (comma : skip after ≡ 44 ∷ more) where
      is_made : list_at 93 item n bs ≡ made (λ xs. r.value ∷ xs) (list_at 93 item (n - 1) more)
      is_made = goes_on item n bs some r.value after r.prefix_is more comma

      led_all : (first : Option B) (r : Result (List B × C) E) → and_then (λ ys. give (led (option_to_list first) ys)) r ≡ and_then (λ xs. give (where_led (is_some first) xs)) (following (option_to_list first) r)
      led_all first (Err e) = refl
      led_all None (Ok x) = refl
      led_all (Some y) (Ok x) = refl

      law : (ws : List Json) → led_by read (r.value ∷ ws) c ≡ and_then (λ xs. give (where_led (is_some first) xs)) (fold (with_read read) (option_to_list first) ws mid)
      law ws = rw r.means (led_all first (gather read ws mid) ∙ ap (and_then (λ xs. give (where_led (is_some first) xs))) (sym (folded read ws (option_to_list first) mid)))

      pub leader_reads : (xs : List B) (rest : List ℕ) (new : C) → Reads (fold (with_read read) (option_to_list first)) (list_at 93 item (n - 1) more) xs rest mid new
          → Reads (led_by read) (list_at 93 item n bs) (where_led (is_some first) xs) rest c new
      leader_reads xs rest new h =
          made_reads (λ ws. r.value ∷ ws) (led_by read) (λ ws d. and_then (λ ys. give (where_led (is_some first) ys)) (fold (with_read read) (option_to_list first) ws d)) (list_at 93 item n bs) (list_at 93 item (n - 1) more) is_made c mid (λ ws end k. law ws)
          (where_led (is_some first) xs) rest new record { value = h.value; prefix_is = h.prefix_is; means = rw h.means refl }

      pub led_stops : (s : Stop E) → Stops (fold (with_read read) (option_to_list first)) (list_at 93 item (n - 1) more) mid s → Stops (led_by read) (list_at 93 item n bs) c s
      led_stops s h =
          made_stops (λ ws. r.value ∷ ws) (led_by read) (λ ws d. and_then (λ ys. give (where_led (is_some first) ys)) (fold (with_read read) (option_to_list first) ws d)) (list_at 93 item n bs) (list_at 93 item (n - 1) more) is_made c mid (λ ws end k. law ws) s
          (then_stops (fold (with_read read) (option_to_list first)) (λ ys. give (where_led (is_some first) ys)) (λ ws d. and_then (λ ys. give (where_led (is_some first) ys)) (fold (with_read read) (option_to_list first) ws d)) (list_at 93 item (n - 1) more) mid (λ ws. refl) s h)
