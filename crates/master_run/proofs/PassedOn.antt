-- What links were handed is passed on to their nodes' appliers: so no link has a commit left, and a node is handed what
-- its link was told.
use Rattle.std.specs.Prelude.{◌≡◌, ℕ, List, [], ◌∷◌, ◌++◌, drop, length, map, take, Option, Some, Result, Ok, Err, OnOk, refl}
use Rattle.std.proofs.Common.{sym, ◌∙◌, ap, subst}
use Rattle.std.proofs.Math.Seq.{take-append_seam}
use Rattle.std.specs.List.{AllByRecursion, AllZip}
use Rattle.meta_state.specs.declared.cluster_state.ClusterState.{ClusterState}
use Rattle.node_apply.specs.Applying.{Node, last_of_node, last_waiting, passed_on}
use Rattle.node_apply.specs.NodeLinks.{NodeLinkView, commits_told, last_commit, passed, told}
use Rattle.publication.specs.Fours.{AllFour}
use Rattle.publication.specs.LinkMeanings.{LinkMeaning}
use Rattle.publication.specs.Threes.{AllThree}
use Rattle.publication.proofs.Threes.{three_by}
use Rattle.scripts.specs.declared.whole_script.Script.{Script}
use Rattle.scripts.specs.declared.whole_script.ScriptNode.{ScriptNode}
use Rattle.session_law.specs.declared.worlds.World.{World}
use Rattle.session_law.specs.Histories.{SteppedBatch}
use Rattle.session_law.specs.NodeRecords.{Commit}
use Rattle.master_run.specs.Appliers.{AreNodesOf, courses_of, node_course, origin_of}
use Rattle.master_run.specs.Linked.{AreUsed}
use Rattle.master_run.specs.Nodes.{handed_each, handed_of}
use Rattle.master_run.specs.Passing.{ArePassed, AreTold, CanPass, IsPassed, IsTold, meanings_of, passed_each}
use Rattle.master_run.specs.Sendings.{AreLinksOf, WasProposed}
use Rattle.master_run.proofs.Keeping.{some_same}

-- ---- all that was walked over

-- a link and its node's applier, before and after what the one has was passed on to the other
abbrev pub IsPassedOn : NodeLinkView → NodeLinkView → Node → Node → Type 0
IsPassedOn before after was now = (after ≡ passed before) × (now ≡ passed_on (told before.meaning) was)

abbrev pub itself : NodeLinkView → NodeLinkView
itself link = link

pub links_passed : (before after : List NodeLinkView) (were are : List Node) → AllFour IsPassedOn (map itself before) (map itself after) were are → after ≡ map passed before
links_passed [] [] [] [] all = refl
links_passed (b ∷ before) (a ∷ after) (w ∷ were) (n ∷ are) all = λ i. all.0.0 i ∷ links_passed before after were are all.1 i
links_passed [] [] [] (n ∷ are) all = absurd all
links_passed [] [] (w ∷ were) are all = absurd all
links_passed [] (a ∷ after) were are all = absurd all
links_passed (b ∷ before) [] were are all = absurd all
links_passed (b ∷ before) (a ∷ after) [] are all = absurd all
links_passed (b ∷ before) (a ∷ after) (w ∷ were) [] all = absurd all

pub nodes_passed : (before after : List NodeLinkView) (were are : List Node) → AllFour IsPassedOn (map itself before) (map itself after) were are → are ≡ passed_each before were
nodes_passed [] [] [] [] all = refl
nodes_passed (b ∷ before) (a ∷ after) (w ∷ were) (n ∷ are) all = λ i. all.0.1 i ∷ nodes_passed before after were are all.1 i
nodes_passed [] [] [] (n ∷ are) all = absurd all
nodes_passed [] [] (w ∷ were) are all = absurd all
nodes_passed [] (a ∷ after) were are all = absurd all
nodes_passed (b ∷ before) [] were are all = absurd all
nodes_passed (b ∷ before) (a ∷ after) [] are all = absurd all
nodes_passed (b ∷ before) (a ∷ after) (w ∷ were) [] all = absurd all

pub can_each : (links : List NodeLinkView) (have : List Node) → AllZip CanPass links have → AllZip CanPass (map itself links) have
can_each [] [] can = tt
can_each [] (has ∷ have) can = absurd can
can_each (link ∷ links) [] can = absurd can
can_each (link ∷ links) (has ∷ have) can = (can.0, can_each links have can.1)

-- ---- the last state

last_on : (more : List Commit) (head : ClusterState) (waiting : List Commit) → last_waiting head (waiting ++ more) ≡ last_waiting (last_waiting head waiting) more
last_on more head [] = refl
last_on more head (commit ∷ waiting) = last_on more commit.state waiting

-- the last commit that was passed on, where it is known, is the last that waits
last_known : (told : List Commit) (known : Option ClusterState) (last base : ClusterState) → ((state : ClusterState) → known ≡ Some state → state ≡ last) → last_commit known told ≡ Some base
    → base ≡ last_waiting last told
last_known [] known last base same e = same base e
last_known (commit ∷ told) known last base same e =
    last_known told (Some commit.state) commit.state base (λ state f. sym (some_same commit.state state f)) e

pub passed_so : (link : NodeLinkView) (node : Node) → CanPass link node → IsPassed (passed link) (passed_on (told link.meaning) node)
passed_so link node can = record {
  can = record {
    name = can.name;
    base = λ base e.
        last_known (told link.meaning) link.meaning.base (last_of_node node) base can.base e ∙ sym (last_on (told link.meaning) node.head node.waiting);
  };
  handed = refl;
  numbers = refl;
}

-- ---- what was told

told_are : (commits : List Commit) → commits_told (map (λ (c : Commit). c.state) commits) (map (λ (c : Commit). c.publication) commits) ≡ commits
told_are [] = refl
told_are (commit ∷ commits) = ap (λ (l : List Commit). commit ∷ l) (told_are commits)

-- a link that has what its node was handed of a batch, and nothing else
pub record IsReady (script : Script) (s : Option SteppedBatch) (node : ScriptNode) (link : NodeLinkView) (has : Node) : Type 0 where
  pub can : CanPass link has
  pub told : told link.meaning ≡ handed_of script node.name s

ready_one : (script : Script) (s : Option SteppedBatch) (node : ScriptNode) (before after : NodeLinkView) (has : Node) → IsTold script s node before.meaning after.meaning → IsPassed before has
    → IsReady script s node after has
ready_one script s node before after has is was =
    let commits = handed_of script node.name s in
    let handed : after.meaning.handed ≡ map (λ (c : Commit). c.state) commits =
    is.handed ∙ ap (λ (l : List ClusterState). l ++ map (λ (c : Commit). c.state) commits) was.handed in
    let numbers : after.meaning.numbers ≡ map (λ (c : Commit). c.publication) commits =
    is.numbers ∙ ap (λ (l : List ℕ). l ++ map (λ (c : Commit). c.publication) commits) was.numbers in
    record {
      can = record { name = is.name ∙ was.can.name; base = λ base e. was.can.base base (sym is.base ∙ e) };
      told = (λ i. commits_told (handed i) (numbers i)) ∙ told_are commits;
    }

abbrev AreReady : Script → Option SteppedBatch → List ScriptNode → List NodeLinkView → List Node → Type 0
AreReady script s nodes links have = AllThree (IsReady script s) nodes links have

ready_each : (script : Script) (s : Option SteppedBatch) (nodes : List ScriptNode) (before after : List NodeLinkView) (have : List Node)
    → AllThree (IsTold script s) nodes (meanings_of before) (meanings_of after) → ArePassed before have → AreReady script s nodes after have
ready_each script s [] [] [] [] all were = tt
ready_each script s (node ∷ nodes) (b ∷ before) (a ∷ after) (has ∷ have) all were =
    (ready_one script s node b a has all.0 were.0, ready_each script s nodes before after have all.1 were.1)
ready_each script s [] [] [] (has ∷ have) all were = absurd were
ready_each script s [] [] (a ∷ after) have all were = absurd all
ready_each script s [] (b ∷ before) after have all were = absurd all
ready_each script s (node ∷ nodes) [] after have all were = absurd all
ready_each script s (node ∷ nodes) (b ∷ before) [] have all were = absurd all
ready_each script s (node ∷ nodes) (b ∷ before) (a ∷ after) [] all were = absurd were

can_pass_each : (script : Script) (s : Option SteppedBatch) (nodes : List ScriptNode) (links : List NodeLinkView) (have : List Node) → AreReady script s nodes links have
    → AllZip CanPass links have
can_pass_each script s nodes links have all =
    three_by (IsReady script s) (λ nodes links have. AllZip CanPass links have) tt (λ node link has nodes links have one all rest. (one.can, rest)) nodes links have all

courses_handed : (script : Script) (s : Option SteppedBatch) (nodes : List ScriptNode) (links : List NodeLinkView) (have : List Node) → AreReady script s nodes links have
    → courses_of (passed_each links have) ≡ handed_each script s nodes (courses_of have)
courses_handed script s nodes links have all =
    three_by (IsReady script s) (λ nodes links have. courses_of (passed_each links have) ≡ handed_each script s nodes (courses_of have)) refl
    (λ node link has nodes links have one all rest i. record (node_course has) { left = has.waiting ++ one.told i } ∷ rest i) nodes links have all

-- ---- what stays

origins_passed : (links : List NodeLinkView) (have : List Node) → AllZip CanPass links have → map origin_of (passed_each links have) ≡ map origin_of have
origins_passed [] [] can = refl
origins_passed [] (has ∷ have) can = refl
origins_passed (link ∷ links) [] can = refl
origins_passed (link ∷ links) (has ∷ have) can = λ i. origin_of has ∷ origins_passed links have can.1 i

all_passed : (links : List NodeLinkView) (have : List Node) → AllZip CanPass links have → ArePassed (map passed links) (passed_each links have)
all_passed [] [] can = tt
all_passed [] (has ∷ have) can = absurd can
all_passed (link ∷ links) [] can = absurd can
all_passed (link ∷ links) (has ∷ have) can = (passed_so link has can.0, all_passed links have can.1)

-- what a link means but for what it was handed
read_passed : {X : Type 0} (read : LinkMeaning → X) → ((l : NodeLinkView) → read (passed l).meaning ≡ read l.meaning) → (links : List NodeLinkView)
    → map read (meanings_of (map passed links)) ≡ map read (meanings_of links)
read_passed read same [] = refl
read_passed read same (link ∷ links) = λ i. same link i ∷ read_passed read same links i

last_passed : (proposals : ℕ) (links : List NodeLinkView) → AllByRecursion (λ (l : LinkMeaning). WasProposed proposals l.last) (meanings_of links)
    → AllByRecursion (λ (l : LinkMeaning). WasProposed proposals l.last) (meanings_of (map passed links))
last_passed proposals [] all = tt
last_passed proposals (link ∷ links) all = (all.0, last_passed proposals links all.1)

links_of_passed : (nodes : List ScriptNode) (world : World) (links : List NodeLinkView) → AreLinksOf nodes world (meanings_of links) → AreLinksOf nodes world (meanings_of (map passed links))
links_of_passed nodes world links of = record {
  names = read_passed (λ (l : LinkMeaning). l.name) (λ l. refl) links ∙ of.names;
  held = read_passed (λ (l : LinkMeaning). l.held) (λ l. refl) links ∙ of.held;
  sent = read_passed (λ (l : LinkMeaning). l.sent) (λ l. refl) links ∙ of.sent;
  last = last_passed world.proposals links of.last;
}

used_passed : (before : List LinkMeaning) (links : List NodeLinkView) → AreUsed before (meanings_of links) → AreUsed before (meanings_of (map passed links))
used_passed [] [] used = tt
used_passed [] (link ∷ links) used = absurd used
used_passed (b ∷ before) [] used = absurd used
used_passed (b ∷ before) (link ∷ links) used = (record { reliable = used.0.reliable; room = used.0.room }, used_passed before links used.1)

-- ---- the whole, after a batch

pub can_pass_told : (script : Script) (s : Option SteppedBatch) (before after : List NodeLinkView) (have : List Node) → AreTold script s (meanings_of before) (meanings_of after)
    → ArePassed before have → AllZip CanPass after have
can_pass_told script s before after have all were = can_pass_each script s script.nodes after have (ready_each script s script.nodes before after have all were)

pub handed_told : (script : Script) (s : Option SteppedBatch) (before after : List NodeLinkView) (have now : List Node) → AreTold script s (meanings_of before) (meanings_of after)
    → ArePassed before have → now ≡ passed_each after have → courses_of now ≡ handed_each script s script.nodes (courses_of have)
handed_told script s before after have now all were e =
    ap courses_of e ∙ courses_handed script s script.nodes after have (ready_each script s script.nodes before after have all were)

pub nodes_stay : (script : Script) (links : List NodeLinkView) (have now : List Node) → AllZip CanPass links have → AreNodesOf script have → now ≡ passed_each links have → AreNodesOf script now
nodes_stay script links have now can are e = ap (map origin_of) e ∙ origins_passed links have can ∙ are

pub links_stay : (nodes : List ScriptNode) (world : World) (links now : List NodeLinkView) → AreLinksOf nodes world (meanings_of links) → now ≡ map passed links
    → AreLinksOf nodes world (meanings_of now)
links_stay nodes world links now of e = subst (λ (l : List NodeLinkView). AreLinksOf nodes world (meanings_of l)) (sym e) (links_of_passed nodes world links of)

pub used_still : (before : List LinkMeaning) (links now : List NodeLinkView) → AreUsed before (meanings_of links) → now ≡ map passed links → AreUsed before (meanings_of now)
used_still before links now used e = subst (λ (l : List NodeLinkView). AreUsed before (meanings_of l)) (sym e) (used_passed before links used)

passed_now : (links now : List NodeLinkView) (have are : List Node) → AllZip CanPass links have → now ≡ map passed links → are ≡ passed_each links have → ArePassed now are
passed_now links now have are can e f =
    subst (λ (l : List NodeLinkView). ArePassed l are) (sym e) (subst (λ (n : List Node). ArePassed (map passed links) n) (sym f) (all_passed links have can))

pub passed_if : {T E : Type 0} (made : Result T E) (links now : List NodeLinkView) (have are : List Node) → AllZip CanPass links have → OnOk made (now ≡ map passed links)
    → OnOk made (are ≡ passed_each links have) → OnOk made (ArePassed now are)
passed_if (Ok done) links now have are can e f = passed_now links now have are can e f
passed_if (Err fault) links now have are can e f = tt

-- a vector whose elements were passed on as a slice
pub written_back : {A : Type 0} (long : ℕ) (now before : List A) → length now ≡ long → take long (now ++ drop (length now) before) ≡ now
written_back long now before e = ap (λ (n : ℕ). take n (now ++ drop (length now) before)) (sym e) ∙ take-append_seam now (drop (length now) before)
