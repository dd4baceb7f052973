-- The texts of the objects, in the parts by which they are written.
use Rattle.std.proofs.Common.{◌≡◌, ℕ, List, [], ◌∷◌, ◌++◌, ◌∙◌, append_assoc, ap, refl}
use Rattle.std.specs.Prelude.{codes}
use Rattle.json_value.specs.declared.json.Json.{Json}
use Rattle.json_value.specs.declared.json.Json.TheVariants as j
use Rattle.json_value.specs.Text.{json_text, escaped_byte}
use Rattle.json_value.proofs.Texts.{text-object, text-text}

-- pairs of texts in a row, and what closes it
abbrev pub in_row : List (List ℕ × List ℕ) → List ℕ → List ℕ
in_row [] closing = closing
in_row (m ∷ ms) closing = (m.0 ++ m.1) ++ in_row ms closing

closed : (ms : List (List ℕ × List ℕ)) (closing : List ℕ) → in_row ms [] ++ closing ≡ in_row ms closing
closed [] closing = refl
closed (m ∷ ms) closing = append_assoc (m.0 ++ m.1) (in_row ms []) closing ∙ ap (λ z. (m.0 ++ m.1) ++ z) (closed ms closing)

pub dropped-text : (layer feature path cause : Json)
    → json_text (j.Object ((codes "layer", layer) ∷ (codes "feature", feature) ∷ (codes "path", path) ∷ (codes "cause", cause) ∷ []))
    ≡ in_row ((codes "{\"layer\":", json_text layer) ∷ (codes ",\"feature\":", json_text feature)
    ∷ (codes ",\"path\":", json_text path) ∷ (codes ",\"cause\":", json_text cause) ∷ []) (codes "}")
unfolding escaped_byte
dropped-text layer feature path cause = text-object _ ∙ ap (λ z. codes "{" ++ z)
    (closed ((codes "\"layer\":", json_text layer) ∷ (codes ",\"feature\":", json_text feature)
    ∷ (codes ",\"path\":", json_text path) ∷ (codes ",\"cause\":", json_text cause) ∷ []) (codes "}"))

-- the words for why a line or a ring isn't written, as JSON texts
pub collapsed-text : json_text (j.Text (codes "collapsed")) ≡ codes "\"collapsed\""
unfolding escaped_byte
collapsed-text = text-text (codes "collapsed")

pub small-text : json_text (j.Text (codes "small")) ≡ codes "\"small\""
unfolding escaped_byte
small-text = text-text (codes "small")

pub outer-text : json_text (j.Text (codes "outer")) ≡ codes "\"outer\""
unfolding escaped_byte
outer-text = text-text (codes "outer")

pub fault-text : (code name layer feature at sent : Json)
    → json_text (j.Object ((codes "code", code) ∷ (codes "name", name) ∷ (codes "layer", layer) ∷ (codes "feature", feature) ∷ (codes "at", at) ∷ (codes "sent", sent) ∷ []))
    ≡ in_row ((codes "{\"code\":", json_text code) ∷ (codes ",\"name\":", json_text name) ∷ (codes ",\"layer\":", json_text layer)
    ∷ (codes ",\"feature\":", json_text feature) ∷ (codes ",\"at\":", json_text at) ∷ (codes ",\"sent\":", json_text sent) ∷ []) (codes "}")
unfolding escaped_byte
fault-text code name layer feature at sent = text-object _ ∙ ap (λ z. codes "{" ++ z)
    (closed ((codes "\"code\":", json_text code) ∷ (codes ",\"name\":", json_text name) ∷ (codes ",\"layer\":", json_text layer)
    ∷ (codes ",\"feature\":", json_text feature) ∷ (codes ",\"at\":", json_text at) ∷ (codes ",\"sent\":", json_text sent) ∷ []) (codes "}"))

pub report-text : (rounded extra empty dropped lost arcs kept removed chosen : Json)
    → json_text (j.Object ((codes "rounded", rounded) ∷ (codes "extra", extra) ∷ (codes "empty", empty) ∷ (codes "dropped", dropped)
    ∷ (codes "lost", lost) ∷ (codes "arcs", arcs) ∷ (codes "kept", kept) ∷ (codes "removed", removed) ∷ (codes "chosen", chosen) ∷ []))
    ≡ in_row ((codes "{\"rounded\":", json_text rounded) ∷ (codes ",\"extra\":", json_text extra) ∷ (codes ",\"empty\":", json_text empty)
    ∷ (codes ",\"dropped\":", json_text dropped) ∷ (codes ",\"lost\":", json_text lost) ∷ (codes ",\"arcs\":", json_text arcs) ∷ (codes ",\"kept\":", json_text kept)
    ∷ (codes ",\"removed\":", json_text removed) ∷ (codes ",\"chosen\":", json_text chosen) ∷ []) (codes "}")
unfolding escaped_byte
report-text rounded extra empty dropped lost arcs kept removed chosen = text-object _ ∙ ap (λ z. codes "{" ++ z)
    (closed ((codes "\"rounded\":", json_text rounded) ∷ (codes ",\"extra\":", json_text extra) ∷ (codes ",\"empty\":", json_text empty)
    ∷ (codes ",\"dropped\":", json_text dropped) ∷ (codes ",\"lost\":", json_text lost) ∷ (codes ",\"arcs\":", json_text arcs) ∷ (codes ",\"kept\":", json_text kept)
    ∷ (codes ",\"removed\":", json_text removed) ∷ (codes ",\"chosen\":", json_text chosen) ∷ []) (codes "}"))

-- the object of a run, with a line feed after it
pub run-text : (status fault report explanation : Json)
    → json_text (j.Object ((codes "status", status) ∷ (codes "fault", fault) ∷ (codes "report", report) ∷ (codes "explanation", explanation) ∷ [])) ++ codes "\n"
    ≡ in_row ((codes "{\"status\":", json_text status) ∷ (codes ",\"fault\":", json_text fault)
    ∷ (codes ",\"report\":", json_text report) ∷ (codes ",\"explanation\":", json_text explanation) ∷ []) (codes "}\n")
unfolding escaped_byte
run-text status fault report explanation =
    let members : List (List ℕ × List ℕ) = (codes "\"status\":", json_text status) ∷ (codes ",\"fault\":", json_text fault)
    ∷ (codes ",\"report\":", json_text report) ∷ (codes ",\"explanation\":", json_text explanation) ∷ [] in
    ap (λ z. z ++ codes "\n") (text-object _) ∙ ap (λ z. codes "{" ++ z) (append_assoc (in_row members []) (codes "}") (codes "\n") ∙ closed members (codes "}\n"))
