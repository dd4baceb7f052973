use Rattle.std.proofs.Common.{◌≡◌, ◌++◌, ◌∷◌, ◌∙◌, [], Bool, List, ap, if◌then◌else◌, subst, true}
use Rattle.std.proofs.lemmas.List.{append_assoc}
use Rattle.std.proofs.lemmas.Result.{on_ok_weaker}
use Rattle.clap.specs.Walk.{Text}
use Rattle.command_words.proofs.joining.push_explained.Goals as goal

-- a word and another behind it, for a word of which both are asked
both : (asked : Bool) (before more all : List Text) (word behind : Text) → true ≡ asked → more ≡ before ++ (word ∷ []) → all ≡ more ++ (behind ∷ [])
    → all ≡ before ++ (if asked then word ∷ behind ∷ [] else word ∷ [])
both asked before more all word behind is e h =
    subst (λ (b : Bool). all ≡ before ++ (if b then word ∷ behind ∷ [] else word ∷ [])) is
    (h ∙ ap (λ ws. ws ++ (behind ∷ [])) e ∙ append_assoc before (word ∷ []) (behind ∷ []))

pub returns-then-is_command : goal.returns-then-is_command
returns-then-is_command c =
    on_ok_weaker c.push_word-then-is_command.result (both _ _ _ _ c.args.word.now _ c.if-is_command.ensures c.in_ok-push_word.ensures)
    c.push_word-then-is_command.ensures
