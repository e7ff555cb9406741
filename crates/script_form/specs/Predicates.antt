-- A predicate: an object of one member, which says what is to be met. They nest at most 16 deep, the outermost being 1.
-- The form is this project's own.
use Rattle.std.specs.Prelude.{ℕ, zero, suc, List, [], ◌∷◌, Some, None, Option, Result, Ok, codes, bytes_eq, if◌then◌else◌}
use Rattle.serde_json.specs.Data.{Data, Members, no_members, member}
use Rattle.serde_json.specs.Find.{as_object}
use Rattle.meta_state.specs.declared.predicates.Pred.{Pred}
use Rattle.meta_state.specs.declared.predicates.Pred.TheVariants as pred
use Rattle.script_form.specs.declared.limits.LimitName.TheVariants.{Depth, Then}
use Rattle.script_form.specs.declared.misfits.Misfit.{Misfit}
use Rattle.script_form.specs.declared.rules.Rule.TheVariants.{WrongType, Value}
use Rattle.script_form.specs.Misfits.{◌>>=◌, bad, over, at_member, within}
use Rattle.script_form.specs.Parts.{is_known, check_members, required, list_of, short_list, each, text_of, whole_of}

abbrev pub pred_words : List (List ℕ)
pred_words = codes "index" ∷ codes "alias" ∷ codes "node" ∷ codes "version" ∷ codes "setting" ∷ codes "not" ∷ codes "all" ∷ codes "any" ∷ []

-- the member of an object that has no other
abbrev pub only_of : Members → Option (List ℕ × Data)
only_of (member key d no_members) = Some (key, d)
only_of _ = None

-- one of the known names
abbrev pub choice_among : Option (List ℕ × Data) → Result (List ℕ × Data) Misfit
choice_among None = bad Value
choice_among (Some chosen) = if is_known pred_words chosen.0 then Ok chosen else bad Value

abbrev pub choice_in : Option Members → Result (List ℕ × Data) Misfit
choice_in None = bad WrongType
choice_in (Some ms) = choice_among (only_of ms)

unfoldable pub choice_of : Data → Result (List ℕ × Data) Misfit
choice_of d = choice_in (as_object d)

unfoldable pub setting_pred_of : Data → Result Pred Misfit
setting_pred_of d =
    check_members (codes "key" ∷ codes "value" ∷ []) d >>= λ _.
    required (codes "key") text_of d >>= λ key.
    required (codes "value") text_of d >>= λ content.
    Ok (pred.Setting key content)

-- predicates in a list, where `deeper` reads one
abbrev pub preds_by : (Data → Result Pred Misfit) → List Pred → List Data → Result (List Pred) Misfit
preds_by deeper before ds = each (λ earlier d. deeper d) before ds

-- what the member of this name says, where `deeper` reads the predicates inside
unfoldable pub pred_by : (Data → Result Pred Misfit) → List ℕ → Data → Result Pred Misfit
pred_by deeper word d =
    if bytes_eq word (codes "index") then text_of d >>= (λ name. Ok (pred.Index name)) else
    (if bytes_eq word (codes "alias") then text_of d >>= (λ name. Ok (pred.Alias name)) else
    (if bytes_eq word (codes "node") then text_of d >>= (λ name. Ok (pred.Node name)) else
    (if bytes_eq word (codes "version") then whole_of d >>= (λ version. Ok (pred.Version version)) else
    (if bytes_eq word (codes "setting") then setting_pred_of d else
    (if bytes_eq word (codes "not") then deeper d >>= (λ inner. Ok (pred.Not inner)) else
    (if bytes_eq word (codes "all") then list_of d >>= preds_by deeper [] >>= (λ parts. Ok (pred.All parts)) else
    (if bytes_eq word (codes "any") then list_of d >>= preds_by deeper [] >>= (λ parts. Ok (pred.Any parts)) else bad Value)))))))

-- a predicate that may nest `left` deep
unfoldable pub pred_of : ℕ → Data → Result Pred Misfit
pred_of zero d = choice_of d >>= λ chosen. over Depth
pred_of (suc left) d = choice_of d >>= λ chosen. within (at_member chosen.0) (pred_by (pred_of left) chosen.0 chosen.1)

-- at most 8, each met after the one before it
abbrev pub thens_of : Data → Result (List Pred) Misfit
thens_of d = short_list 8 Then d >>= preds_by (pred_of 16) []
