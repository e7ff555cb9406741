-- What nodes answered is what a publication reaches where those are cut off that were sent it and didn't accept.
use Rattle.std.specs.Prelude.{◌≡◌, ℕ, ◌+◌, Bool, true, false, not, cond, ◌&&◌, ◌||◌, ◌==◌, List, [], ◌∷◌, map, filter, count_by, is_some, slice_get, drop, bytes_eq, refl, if◌then◌else◌}
use Rattle.std.proofs.Common.{sym, ◌∙◌, ap, arith}
use Rattle.std.proofs.Math.Bool.{true≢false}
use Rattle.std.specs.Cmp.Lexicographic.{bytes_decides}
use Rattle.std.specs.List.{AllByRecursion, list_any, zip}
use Rattle.std.proofs.lemmas.List.Sums.{sum_by-cons}
use Rattle.plain_data.specs.Pairs.{lookup}
use Rattle.meta_state.specs.declared.cluster_state.ClusterState.{ClusterState}
use Rattle.meta_state.specs.Voters.{is_eligible}
use Rattle.publication.specs.declared.deliveries.Answer.{Answer}
use Rattle.publication.specs.Deliveries.{IsDelivered}
use Rattle.publication.specs.LinkMeanings.{LinkMeaning}
use Rattle.publication.specs.Threes.{AllThree}
use Rattle.publication.proofs.Threes.{three_both, three_by, three_first, three_map}
use Rattle.scripts.specs.declared.whole_script.ScriptNode.{ScriptNode}
use Rattle.scripts.specs.Names.{are_distinct}
use Rattle.session_law.specs.declared.worlds.NodeWorld.{NodeWorld}
use Rattle.session_law.specs.Publications.{does_accept, is_sent_diff, reach_of, sent_more, sent_on}
use Rattle.master_run.specs.Reaches.{cut_off, is_missed, nodes_after, reach_at}
use Rattle.master_run.proofs.Keeping.{both_first, both_second, bytes_turn, false_from, not_true, some_same}

-- ---- a node and its answer

-- a node of a script, what it has, and its answer, over a link of which this holds
pub record HasAnswered (R : LinkMeaning → LinkMeaning → Answer → Type 0) (node : ScriptNode) (has : NodeWorld) (answer : Answer) : Type 0 where
  pub before : LinkMeaning
  pub after : LinkMeaning
  pub name : before.name ≡ node.name
  pub held : before.held ≡ has.accepted
  pub over : R before after answer

head_name : (link : LinkMeaning) (links : List LinkMeaning) (node : ScriptNode) (nodes : List ScriptNode)
    → map (λ (l : LinkMeaning). l.name) (link ∷ links) ≡ map (λ (n : ScriptNode). n.name) (node ∷ nodes) → link.name ≡ node.name
head_name link links node nodes e = some_same link.name node.name (ap (λ (names : List (List ℕ)). slice_get names 0) e)

head_held : (link : LinkMeaning) (links : List LinkMeaning) (has : NodeWorld) (have : List NodeWorld)
    → map (λ (l : LinkMeaning). l.held) (link ∷ links) ≡ map (λ (n : NodeWorld). n.accepted) (has ∷ have) → link.held ≡ has.accepted
head_held link links has have e = some_same link.held has.accepted (ap (λ (states : List ClusterState). slice_get states 0) e)

pub no_more : {A : Type 0} (x : A) (xs : List A) → [] ≡ x ∷ xs → ⊥
no_more x xs e = cc

abbrev AreAnsweredBy : (LinkMeaning → LinkMeaning → Answer → Type 0) → List LinkMeaning → List Answer → Type 0
AreAnsweredBy R before answers = (nodes : List ScriptNode) (have : List NodeWorld) → map (λ (l : LinkMeaning). l.name) before ≡ map (λ (n : ScriptNode). n.name) nodes
    → map (λ (l : LinkMeaning). l.held) before ≡ map (λ (n : NodeWorld). n.accepted) have → AllThree (HasAnswered R) nodes have answers

none_answered : (R : LinkMeaning → LinkMeaning → Answer → Type 0) → AreAnsweredBy R [] []
none_answered R [] [] e f = tt
none_answered R [] (has ∷ have) e f = absurd (no_more has.accepted (map (λ (n : NodeWorld). n.accepted) have) f)
none_answered R (node ∷ nodes) have e f = absurd (no_more node.name (map (λ (n : ScriptNode). n.name) nodes) e)

one_answered : (R : LinkMeaning → LinkMeaning → Answer → Type 0) (b a : LinkMeaning) (answer : Answer) (before after : List LinkMeaning) (answers : List Answer) → R b a answer
    → AreAnsweredBy R before answers → AreAnsweredBy R (b ∷ before) (answer ∷ answers)
one_answered R b a answer before after answers one rest [] have e f = absurd (no_more b.name (map (λ (l : LinkMeaning). l.name) before) (sym e))
one_answered R b a answer before after answers one rest (node ∷ nodes) [] e f = absurd (no_more b.held (map (λ (l : LinkMeaning). l.held) before) (sym f))
one_answered R b a answer before after answers one rest (node ∷ nodes) (has ∷ have) e f = (
  record { before = b; after = a; name = head_name b before node nodes e; held = head_held b before has have f; over = one },
  rest nodes have (ap (λ (names : List (List ℕ)). drop 1 names) e) (ap (λ (states : List ClusterState). drop 1 states) f),
)

pub have_answered : (R : LinkMeaning → LinkMeaning → Answer → Type 0) (before after : List LinkMeaning) (answers : List Answer) → AllThree R before after answers → AreAnsweredBy R before answers
have_answered R before after answers all =
    three_by R (λ before after answers. AreAnsweredBy R before answers) (none_answered R)
    (λ b a answer before after answers one all rest. one_answered R b a answer before after answers one rest) before after answers all

-- ---- whom a publication couldn't reach, by name

-- at each place the nodes that are cut off are those that were missed
abbrev pub IsCut : (List ℕ → ℕ → Bool) → ScriptNode → NodeWorld → Answer → Type 0
IsCut cut node has answer = answer.asked ≡ true → cut node.name (has.sent + 1) ≡ is_missed answer

or_none_first : (a b : Bool) → (a || b) ≡ false → a ≡ false
or_none_first true b e = absurd (true≢false e)
or_none_first false b e = refl

or_none_second : (a b : Bool) → (a || b) ≡ false → b ≡ false
or_none_second true b e = absurd (true≢false e)
or_none_second false b e = e

turned_false : (a b : List ℕ) → bytes_eq a b ≡ false → bytes_eq b a ≡ false
turned_false a b e = false_from (bytes_eq b a) (λ h. true≢false (sym (bytes_turn b a h) ∙ e))

other_names : (name : List ℕ) (nodes : List ScriptNode) → list_any (bytes_eq name) (map (λ (n : ScriptNode). n.name) nodes) ≡ false
    → AllByRecursion (λ (n : ScriptNode). bytes_eq n.name name ≡ false) nodes
other_names name [] h = tt
other_names name (node ∷ nodes) h = (
  turned_false name node.name (or_none_first (bytes_eq name node.name) (list_any (bytes_eq name) (map (λ (n : ScriptNode). n.name) nodes)) h),
  other_names name nodes (or_none_second (bytes_eq name node.name) (list_any (bytes_eq name) (map (λ (n : ScriptNode). n.name) nodes)) h),
)

choose_first : (b : Bool) (x y : Bool) → b ≡ true → (if b then x else y) ≡ x
choose_first true x y e = refl
choose_first false x y e = absurd (true≢false (sym e))

choose_second : (b : Bool) (x y : Bool) → b ≡ false → (if b then x else y) ≡ y
choose_second true x y e = absurd (true≢false e)
choose_second false x y e = refl

pub cut_where_missed : (R : ScriptNode → NodeWorld → Answer → Type 0) (nodes : List ScriptNode) (have : List NodeWorld) (answers : List Answer) → AllThree R nodes have answers
    → are_distinct (map (λ (n : ScriptNode). n.name) nodes) ≡ true → AllThree (IsCut (cut_off nodes answers)) nodes have answers
cut_where_missed R nodes have answers all =
    three_by R (λ nodes have answers. are_distinct (map (λ (n : ScriptNode). n.name) nodes) ≡ true → AllThree (IsCut (cut_off nodes answers)) nodes have answers)
    (λ d. tt)
    (λ node has answer nodes have answers r all rest d. (
      (λ asked. choose_first (bytes_eq node.name node.name) (is_missed answer) (cut_off nodes answers node.name (has.sent + 1)) ((bytes_decides node.name node.name).1 refl)),
      three_map (λ n h a. (bytes_eq n.name node.name ≡ false) × IsCut (cut_off nodes answers) n h a) (IsCut (cut_off (node ∷ nodes) (answer ∷ answers)))
          (λ n h a both asked. choose_second (bytes_eq n.name node.name) (is_missed answer) (cut_off nodes answers n.name (h.sent + 1)) both.0 ∙ both.1 asked) nodes have answers
          (three_first (λ (n : ScriptNode). bytes_eq n.name node.name ≡ false) (IsCut (cut_off nodes answers)) nodes have answers
          (other_names node.name nodes (not_true _ (both_first _ _ d))) (rest (both_second _ _ d))),
    ))
    nodes have answers all

-- ---- a node's answer, by the definition

pub record IsTold (cut : List ℕ → ℕ → Bool) (prev new : ClusterState) (node : ScriptNode) (has : NodeWorld) (answer : Answer) : Type 0 where
  pub asked : answer.asked ≡ is_some (lookup node.name new.nodes)
  pub accepted : answer.accepted ≡ does_accept cut new (node, has)
  pub by_diff : answer.by_diff ≡ (answer.accepted && is_sent_diff prev node.name has)
  pub votes : answer.votes ≡ (answer.accepted && is_eligible (lookup node.name new.nodes))
  pub leads : answer.leads ≡ (answer.accepted && bytes_eq node.name new.master)

accepted_by : (asked took off : Bool) → (asked ≡ false → took ≡ false) → (asked ≡ true → off ≡ (asked && not took)) → took ≡ (asked && not off)
accepted_by false took off outside cut = outside refl
accepted_by true true off outside cut = ap not (sym (cut refl))
accepted_by true false off outside cut = ap not (sym (cut refl))

is_told : (cut : List ℕ → ℕ → Bool) (prev new : ClusterState) (commits : Bool) (node : ScriptNode) (has : NodeWorld) (answer : Answer)
    → HasAnswered (IsDelivered prev new commits) node has answer × IsCut cut node has answer → IsTold cut prev new node has answer
is_told cut prev new commits node has answer both =
    let told = both.0.over.told in
    let name = both.0.name in
    let asked : answer.asked ≡ is_some (lookup node.name new.nodes) = ap (λ (a : Answer). a.asked) told ∙ ap (λ (n : List ℕ). is_some (lookup n new.nodes)) name in
    record {
      asked = asked;
      accepted = accepted_by answer.asked answer.accepted (cut node.name (has.sent + 1)) (λ e. (both.0.over.outside e).0) both.1
          ∙ ap (λ (b : Bool). b && not (cut node.name (has.sent + 1))) asked;
      by_diff = ap (λ (a : Answer). a.by_diff) told ∙ (λ i. answer.accepted && (is_some (lookup (name i) prev.nodes) && ((both.0.held i).id == prev.id)));
      votes = ap (λ (a : Answer). a.votes) told ∙ (λ i. answer.accepted && is_eligible (lookup (name i) new.nodes));
      leads = ap (λ (a : Answer). a.leads) told ∙ (λ i. answer.accepted && bytes_eq (name i) new.master);
    }

pub are_told : (cut : List ℕ → ℕ → Bool) (prev new : ClusterState) (commits : Bool) (nodes : List ScriptNode) (have : List NodeWorld) (answers : List Answer)
    → AllThree (HasAnswered (IsDelivered prev new commits)) nodes have answers → AllThree (IsCut cut) nodes have answers → AllThree (IsTold cut prev new) nodes have answers
are_told cut prev new commits nodes have answers all cuts =
    three_map (λ n h a. HasAnswered (IsDelivered prev new commits) n h a × IsCut cut n h a) (IsTold cut prev new) (is_told cut prev new commits) nodes have answers
    (three_both (HasAnswered (IsDelivered prev new commits)) (IsCut cut) nodes have answers all cuts)

-- ---- what it reaches

nodes_reached : (cut : List ℕ → ℕ → Bool) (prev new : ClusterState) (nodes : List ScriptNode) (have : List NodeWorld) (answers : List Answer) → AllThree (IsTold cut prev new) nodes have answers
    → nodes_after new have answers ≡ map (sent_on cut new) (zip nodes have)
nodes_reached cut prev new nodes have answers all =
    three_by (IsTold cut prev new) (λ nodes have answers. nodes_after new have answers ≡ map (sent_on cut new) (zip nodes have)) refl
    (λ node has answer nodes have answers told all rest i. (if told.asked i then sent_more new has (told.accepted i) else has) ∷ rest i) nodes have answers all

-- a test of answers that accepted is one of nodes that accept
abbrev IsTestOf : (List ℕ → ℕ → Bool) → ClusterState → ClusterState → (Answer → Bool) → (ScriptNode × NodeWorld → Bool) → Type 0
IsTestOf cut prev new f g = (node : ScriptNode) (has : NodeWorld) (answer : Answer) → IsTold cut prev new node has answer → f answer ≡ (does_accept cut new (node, has) && g (node, has))

counted_first : (accepts : Bool) (g : ScriptNode × NodeWorld → Bool) (p : ScriptNode × NodeWorld) (rest : List (ScriptNode × NodeWorld))
    → count_by g (cond accepts (p ∷ rest) rest) ≡ cond (accepts && g p) 1 0 + count_by g rest
counted_first true g p rest = sum_by-cons (λ q. cond (g q) 1 0) p rest
counted_first false g p rest = omega arith

count_reached : (cut : List ℕ → ℕ → Bool) (prev new : ClusterState) (f : Answer → Bool) (g : ScriptNode × NodeWorld → Bool) → IsTestOf cut prev new f g
    → (nodes : List ScriptNode) (have : List NodeWorld) (answers : List Answer) → AllThree (IsTold cut prev new) nodes have answers
    → count_by f answers ≡ count_by g (filter (does_accept cut new) (zip nodes have))
count_reached cut prev new f g is nodes have answers all =
    three_by (IsTold cut prev new) (λ nodes have answers. count_by f answers ≡ count_by g (filter (does_accept cut new) (zip nodes have))) refl
    (λ node has answer nodes have answers told all rest.
    sum_by-cons (λ a. cond (f a) 1 0) answer answers
    ∙ (λ i. cond (is node has answer told i) 1 0 + rest i)
    ∙ sym (counted_first (does_accept cut new (node, has)) g (node, has) (filter (does_accept cut new) (zip nodes have)))) nodes have answers all

any_first : (accepts : Bool) (g : ScriptNode × NodeWorld → Bool) (p : ScriptNode × NodeWorld) (rest : List (ScriptNode × NodeWorld))
    → list_any g (cond accepts (p ∷ rest) rest) ≡ ((accepts && g p) || list_any g rest)
any_first true g p rest = refl
any_first false g p rest = refl

any_reached : (cut : List ℕ → ℕ → Bool) (prev new : ClusterState) (f : Answer → Bool) (g : ScriptNode × NodeWorld → Bool) → IsTestOf cut prev new f g
    → (nodes : List ScriptNode) (have : List NodeWorld) (answers : List Answer) → AllThree (IsTold cut prev new) nodes have answers
    → list_any f answers ≡ list_any g (filter (does_accept cut new) (zip nodes have))
any_reached cut prev new f g is nodes have answers all =
    three_by (IsTold cut prev new) (λ nodes have answers. list_any f answers ≡ list_any g (filter (does_accept cut new) (zip nodes have))) refl
    (λ node has answer nodes have answers told all rest.
    (λ i. is node has answer told i || rest i)
    ∙ sym (any_first (does_accept cut new (node, has)) g (node, has) (filter (does_accept cut new) (zip nodes have)))) nodes have answers all

in_full : (took diff : Bool) → (took && not (took && diff)) ≡ (took && not diff)
in_full true diff = refl
in_full false diff = refl

pub reached_by : (cut : List ℕ → ℕ → Bool) (prev new : ClusterState) (nodes : List ScriptNode) (have : List NodeWorld) (answers : List Answer) → AllThree (IsTold cut prev new) nodes have answers
    → reach_at new have answers ≡ reach_of cut prev new nodes have
unfolding reach_of
reached_by cut prev new nodes have answers all =
    let accepts = does_accept cut new in
    λ i. record {
      nodes = nodes_reached cut prev new nodes have answers all i;
      diffs = count_reached cut prev new (λ a. a.by_diff) (λ p. is_sent_diff prev p.0.name p.1)
          (λ node has answer told. told.by_diff ∙ ap (λ (b : Bool). b && is_sent_diff prev node.name has) told.accepted) nodes have answers all i;
      fulls = count_reached cut prev new (λ a. a.accepted && not a.by_diff) (λ p. not (is_sent_diff prev p.0.name p.1))
          (λ node has answer told. (λ j. answer.accepted && not (told.by_diff j)) ∙ in_full answer.accepted (is_sent_diff prev node.name has)
          ∙ ap (λ (b : Bool). b && not (is_sent_diff prev node.name has)) told.accepted) nodes have answers all i;
      votes = count_reached cut prev new (λ a. a.votes) (λ p. is_eligible (lookup p.0.name new.nodes))
          (λ node has answer told. told.votes ∙ ap (λ (b : Bool). b && is_eligible (lookup node.name new.nodes)) told.accepted) nodes have answers all i;
      master = any_reached cut prev new (λ a. a.leads) (λ p. bytes_eq p.0.name new.master)
          (λ node has answer told. told.leads ∙ ap (λ (b : Bool). b && bytes_eq node.name new.master) told.accepted) nodes have answers all i;
    }
