-- Lists of what is kept of the elements of another one, from the front on.
use Rattle.std.proofs.Common.{arith, ◌≡◌, List, [], ◌∷◌, ◌++◌, Option, None, Some, append_assoc, append-nil, sym, ap, ◌∙◌}
use Rattle.build_meaning.proofs.DroppableLines.{some_append}
use Rattle.owned_values.specs.Lists.{with_some, some_of}

pub some_more : {A B : Type 0} (f : A → Option B) (prefix now new : List B) (xs : List A) (x : A) (o : Option B) → now ≡ prefix ++ some_of f xs → o ≡ f x → new ≡ now ++ with_some o []
    → new ≡ prefix ++ some_of f (xs ++ x ∷ [])
some_more f prefix now new xs x o so is e = grind (arith, append_assoc, some_append)

pub none_more : {A B : Type 0} (f : A → Option B) (prefix now : List B) (xs : List A) (x : A) (o : Option B) → now ≡ prefix ++ some_of f xs → o ≡ f x → o ≡ None
    → now ≡ prefix ++ some_of f (xs ++ x ∷ [])
none_more f prefix now xs x o so is none = some_more f prefix now now xs x o so is (sym (ap (λ w. now ++ with_some w []) none ∙ append-nil now))

pub one_more : {A B : Type 0} (f : A → Option B) (prefix now new : List B) (xs : List A) (x : A) (o : Option B) (y : B) → now ≡ prefix ++ some_of f xs → o ≡ f x → o ≡ Some y → new ≡ now ++ y ∷ []
    → new ≡ prefix ++ some_of f (xs ++ x ∷ [])
one_more f prefix now new xs x o y so is some e = some_more f prefix now new xs x o so is (e ∙ sym (ap (λ w. now ++ with_some w []) some))
