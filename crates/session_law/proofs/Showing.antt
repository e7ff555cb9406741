-- What nodes and watches show: an answered part is answered by the first state that hits it, and a node applies a part
-- of what it is handed.
use Rattle.std.specs.Prelude.{◌≡◌, ℕ, ◌+◌, ◌-◌, ◌≤◌, ◌<◌, Bool, true, false, not, List, [], ◌∷◌, Option, Some, None, drop, filter, get_or, is_some, length, map, slice_get, take, refl, IsTrue}
use Rattle.std.proofs.Common.{sym, subst, ap, ◌∙◌, inl, inr, cond, arith}
use Rattle.std.specs.List.{AllByRecursion, list_all}
use Rattle.std.proofs.lemmas.Bool.{true≢false}
use Rattle.std.proofs.lemmas.List.{get_or-take, get_or-drop, length-take, length-drop}
use Rattle.std.proofs.lemmas.List.Folds.{list_all_at}
use Rattle.std.proofs.lemmas.Option.{get_or_from_slice_get, slice_get_within}
use Rattle.meta_state.specs.declared.predicates.Pred.{Pred}
use Rattle.meta_state.specs.declared.cluster_state.ClusterState.{ClusterState}
use Rattle.meta_state.specs.Hits.{is_hit_by}
use Rattle.scripts.specs.declared.whole_script.Script.{Script}
use Rattle.scripts.specs.declared.steps.Step.{Step}
use Rattle.session_law.specs.declared.batches.Batch.{Batch}
use Rattle.session_law.specs.declared.watches.Watch.{Watch}
use Rattle.session_law.specs.declared.watches.WatchEnd.{WatchEnd}
use Rattle.session_law.specs.declared.watches.WatchEnd.TheVariants as end
use Rattle.session_law.specs.Laws.{AnswersAreFirstHits, AppliedWasHanded, IsFirstHit, IsFirstHitOf, IsPartOf, NoneHits}
use Rattle.session_law.specs.NodeRecords.{Commit, commits_to, does_fail}
use Rattle.session_law.specs.Watches as watched
use Rattle.session_law.specs.Watches.{IsAnsweredBy, IsPart, IsPartEnd, IsPartWith, IsWatchPart, answered_version, final_place, states_at}

-- ---- watches

-- an item between a place and the end of those that pass no test passes it neither
before_end : {X : Type 0} (hit : X → Bool) (xs : List X) (place n k : ℕ) (x : X) → list_all (λ y. not (hit y)) (take n (drop place xs)) ≡ true
    → place ≤ k → k < place + n → slice_get xs k ≡ Some x → (b : Bool) → hit x ≡ b → b ≡ false
before_end hit xs place n k x all low high e false p = refl
before_end hit xs place n k x all low high e true p =
    let within = slice_get_within xs k x e in
    let at : get_or (take n (drop place xs)) (k - place) x ≡ x =
    get_or-take n (drop place xs) (k - place) x (omega arith) ∙ (get_or-drop place xs (k - place) x ∙
    (ap (λ j. get_or xs j x) (let j : place + (k - place) ≡ k = omega arith in j) ∙ get_or_from_slice_get xs k x x e)) in
    let short : k - place < length (take n (drop place xs)) = omega (arith, length-take n (drop place xs), length-drop place xs) in
    absurd (true≢false (sym all ∙ list_all_at (λ y. not (hit y)) (take n (drop place xs)) (k - place) x short
    (ap (λ y. not (hit y)) at ∙ ap not p)))

-- an answer shows that there is a final state, which hits
answer_hits : (states : List ClusterState) (pred : Pred) (watch : Watch) (version : ℕ) (earlier : NoneHits states watch.place (final_place watch) watch.last pred)
    (seen : Option ClusterState) → slice_get states (final_place watch) ≡ seen → IsAnsweredBy watch.last pred version seen → IsFirstHit states watch pred
answer_hits states pred watch version earlier None e h = absurd h
answer_hits states pred watch version earlier (Some state) e h = record { state = state; final = e; hits = h.0; earlier = earlier }

end_hits : (script : Script) (states : List ClusterState) (step : Step) (pred : Pred) (watch : Watch) (end : WatchEnd)
    → NoneHits states watch.place (final_place watch) watch.last pred → IsPartEnd script states step pred watch end → IsTrue (is_some (answered_version end))
    → IsFirstHit states watch pred
end_hits script states step pred watch (end.Answered version) earlier h some = answer_hits states pred watch version earlier (slice_get states (final_place watch)) refl h
end_hits script states step pred watch (end.Timeout deadline reading) earlier h some = absurd (true≢false (sym some))
end_hits script states step pred watch (end.Closed client number) earlier h some = absurd (true≢false (sym some))

part_first : (script : Script) (watches : List Watch) (states : List ClusterState) (step : Step) (pred : Pred) (watch : Watch)
    → IsPart script watches states step pred watch → IsTrue (is_some (answered_version watch.end)) → IsFirstHit states watch pred
part_first script watches states step pred watch h some =
    let one = h.shown in
    end_hits script states step pred watch watch.end
    (λ k state low high e. before_end (is_hit_by watch.last pred) states watch.place (watch.shown - 1) k state h.passed low (omega arith) e (is_hit_by watch.last pred state) refl)
    h.ends some

watch_first : (script : Script) (batches : List Batch) (watches : List Watch) (watch : Watch) → IsWatchPart script batches watches watch → IsFirstHitOf script batches watch
watch_first script batches watches watch h some step pred e f =
    let states = states_at script batches watch.client watch.step in
    let P : Option Step → Type 0 = watched.IsPartOfStep script watches states watch in
    let Q : Option Pred → Type 0 = IsPartWith script watches states step watch in
    part_first script watches states step pred watch (subst Q f (subst P e h)) some

each_first : (script : Script) (batches : List Batch) (watches parts : List Watch) → AllByRecursion (IsWatchPart script batches watches) parts
    → AllByRecursion (IsFirstHitOf script batches) parts
each_first script batches watches [] h = tt
each_first script batches watches (watch ∷ parts) h = (watch_first script batches watches watch h.0, each_first script batches watches parts h.1)

pub answers_are_first_hits : AnswersAreFirstHits
answers_are_first_hits script batches watches h = each_first script batches watches watches h.parts

-- ---- nodes

one_kept : (b : Bool) (v : ℕ) (commits kept : List Commit) (vs : List ℕ) (commit : Commit) → IsPartOf (map (λ s. s.version) (map (λ c. c.state) kept)) vs → commit.state.version ≡ v
    → IsPartOf (map (λ s. s.version) (map (λ c. c.state) (cond b (commit ∷ kept) kept))) (v ∷ vs)
one_kept true v commits kept vs commit h e = inl (e, h)
one_kept false v commits [] vs commit h e = tt
one_kept false v commits (next ∷ kept) vs commit h e = inr h

kept_within : (keeps : Commit → Bool) (commits : List Commit)
    → IsPartOf (map (λ s. s.version) (map (λ c. c.state) (filter keeps commits))) (map (λ c. c.state.version) commits)
kept_within keeps [] = tt
kept_within keeps (commit ∷ commits) =
    one_kept (keeps commit) commit.state.version commits (filter keeps commits) (map (λ c. c.state.version) commits) commit (kept_within keeps commits) refl

pub applied_was_handed : AppliedWasHanded
applied_was_handed script batches node = kept_within (λ c. not (does_fail script node c)) (commits_to script batches node)
