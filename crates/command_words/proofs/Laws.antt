-- What words of some forms ask for.
use Rattle.std.proofs.Common.{◌≡◌, Bool, true, false, [], ◌∷◌, Option, Some, None, codes, refl}
use Rattle.clap.specs.Walk.{Text}
use Rattle.clap.proofs.OnLiterals.{clap_on_literals}
use Rattle.std.specs.Prelude.{option_map}
use Rattle.command_words.specs.Asked.{geo, number_at, order_of, stat, whole_number}
use Rattle.command_words.specs.Written.{and_flag, and_value, value_word}

pub stat_law : (output : Option Text) (crossings : Bool) (path : Text) → order_of (codes "stat" ∷ and_value (codes "output") output (and_flag (codes "crossings") crossings (codes "--" ∷ path ∷ [])))
    ≡ Some (stat crossings path, output)
unfolding clap_on_literals
stat_law None true path = refl
stat_law None false path = refl
stat_law (Some file) true path = refl
stat_law (Some file) false path = refl

pub geo_law : (output most : Option Text) (name path : Text)
    → order_of (codes "geo" ∷ and_value (codes "output") output (value_word (codes "object") name ∷ and_value (codes "max-positions") most (codes "--" ∷ path ∷ [])))
    ≡ option_map (λ a. (a, output)) (option_map (λ m. geo name m path) (number_at whole_number most))
unfolding clap_on_literals
geo_law None None name path = refl
geo_law None (Some most) name path = refl
geo_law (Some file) None name path = refl
geo_law (Some file) (Some most) name path = refl
