-- What comes of a new state at one link: the diff is accepted exactly where the state before is held, and the whole
-- state always.
use Rattle.std.specs.Prelude.{◌≡◌, ◌==◌, ◌&&◌, ◌⊎◌, ℕ, Bool, true, false, Option, Some, None, Result, Ok, Err, OnErr, refl, if◌then◌else◌}
use Rattle.std.proofs.Common.{ap, ◌∙◌, arith, inl, inr}
use Rattle.std.proofs.lemmas.Bool.Decides.{nat_tests}
use Rattle.meta_state.specs.declared.cluster_state.ClusterState.{ClusterState}
use Rattle.state_diff.specs.declared.state_diffs.DiffParts.{DiffParts}
use Rattle.state_diff.specs.StateDiffs.{applied, state_between}
use Rattle.publication.specs.declared.messages.Message.{Message}
use Rattle.publication.specs.declared.messages.Message.TheVariants.{Full, Diff}
use Rattle.publication.specs.declared.receipts.Receipt.{Receipt}
use Rattle.publication.specs.declared.receipts.Receipt.TheVariants.{Accepted, Incompatible}
use Rattle.publication.specs.Deliveries.{CanTake, HoldsOldOrNew, is_in, is_sent_diff}
use Rattle.publication.specs.LinkMeanings.{HoldsOldOrSent, LinkMeaning}
use Rattle.publication.specs.Messages.{is_accepted, made_of, received, received_diff, target_id}
use Rattle.publication.specs.Offers.{AreMessagesOf, Change, Holds, IsAccepted, IsRefused, after_taken}

same_id : (a b : ℕ) → (a == b) ≡ true → a ≡ b
same_id a b e = grind (arith, nat_tests, e)

other_id : (a b : ℕ) → (a ≡ b → ⊥) → (a == b) ≡ false
other_id a b e = grind (arith, nat_tests, e)

-- ---- what a node makes of the diff, and of the whole state

received_made : (diff : DiffParts) (held : ClusterState) (made : Option ClusterState) → applied diff held ≡ made → received held (Diff diff) ≡ received_diff diff held made
unfolding received made_of
received_made diff held made e = ap (received_diff diff held) e

received_full : (held new : ClusterState) → received held (Full new) ≡ (Accepted, new)
unfolding received
received_full held new = refl

applied_none : (held patched : ClusterState) (is_to is_from : Bool) → is_to ≡ false → is_from ≡ false
    → (if is_to then Some held else (if is_from then Some patched else None)) ≡ None
applied_none held patched true is_from to from = absurd cc
applied_none held patched false true to from = absurd cc
applied_none held patched false false to from = refl

-- the receipt of the diff and what is held then, by whether the state before was held
abbrev outcome : ClusterState → ClusterState → ℕ → Bool → Receipt × ClusterState
outcome new held wants same = if same then (Accepted, new) else (Incompatible held.id wants, held)

diff_same : (prev new held : ClusterState) → held ≡ prev → applied (state_between prev new) prev ≡ Some new
    → received held (Diff (state_between prev new)) ≡ (Accepted, new)
diff_same prev new held same leads =
    received_made (state_between prev new) held (Some new) (ap (λ (s : ClusterState). applied (state_between prev new) s) same ∙ leads)

diff_other : (prev new held : ClusterState) → (held.id == new.id) ≡ false → (held.id == prev.id) ≡ false
    → received held (Diff (state_between prev new)) ≡ (Incompatible held.id prev.id, held)
diff_other prev new held to from =
    received_made (state_between prev new) held None (applied_none held _ (held.id == new.id) (held.id == prev.id) to from)

taken_by : (prev new held : ClusterState) → (held.id ≡ new.id → ⊥) → (held.id ≡ prev.id → held ≡ prev) → applied (state_between prev new) prev ≡ Some new
    → (same : Bool) → (held.id == prev.id) ≡ same
    → received held (Diff (state_between prev new)) ≡ outcome new held prev.id same
taken_by prev new held other known leads true e = diff_same prev new held (known (same_id _ _ e)) leads
taken_by prev new held other known leads false e = diff_other prev new held (other_id _ _ other) e

-- ---- the messages that bring a new state

diff_comes : (change : Change) (diff full : Message) (before : LinkMeaning) → AreMessagesOf change diff full → CanTake change.prev change.new before
    → received before.held diff ≡ outcome change.new before.held change.prev.id (before.held.id == change.prev.id)
diff_comes change diff full before are can =
    ap (λ (m : Message). received before.held m) are.diff_is
    ∙ taken_by change.prev change.new before.held can.other can.same are.leads (before.held.id == change.prev.id) refl

full_comes : (change : Change) (diff full : Message) (before : LinkMeaning) → AreMessagesOf change diff full
    → received before.held full ≡ (Accepted, change.new)
full_comes change diff full before are = ap (λ (m : Message). received before.held m) are.full_is ∙ received_full before.held change.new

-- both lead to the new state
diff_leads : (change : Change) (diff full : Message) → AreMessagesOf change diff full → target_id diff ≡ change.new.id
diff_leads change diff full are = ap target_id are.diff_is

full_leads : (change : Change) (diff full : Message) → AreMessagesOf change diff full → target_id full ≡ change.new.id
full_leads change diff full are = ap target_id are.full_is

pub holds_in_full : (change : Change) (diff full : Message) (before after : LinkMeaning) → AreMessagesOf change diff full
    → is_sent_diff change.prev before ≡ false → IsAccepted full before after → Holds change false before after
holds_in_full change diff full before after are sent taken = record {
  sent = sent;
  link =
      taken.link
      ∙ (ap (λ (r : Receipt × ClusterState). after_taken (target_id full) r.1 before after.faults) (full_comes change diff full before are)
      ∙ ap (λ (id : ℕ). after_taken id change.new before after.faults) (full_leads change diff full are));
  faults = taken.faults;
}

pub full_is_taken : (change : Change) (diff full : Message) (before after : LinkMeaning) → AreMessagesOf change diff full → IsRefused full before after → ⊥
full_is_taken change diff full before after are refused =
    let e : is_accepted (received before.held full).0 ≡ true = ap (λ (r : Receipt × ClusterState). is_accepted r.0) (full_comes change diff full before are) in
    let no : is_accepted (received before.held full).0 ≡ false = refused.refuses in
    absurd cc

-- what is held after a diff that was accepted
made_by : (new held : ClusterState) (wants : ℕ) (result : Receipt × ClusterState) (same : Bool)
    → result ≡ outcome new held wants same → is_accepted result.0 ≡ true → (same ≡ true) × (result.1 ≡ new)
made_by new held wants result true e takes = (refl, ap (λ (r : Receipt × ClusterState). r.1) e)
made_by new held wants result false e takes =
    let no : is_accepted result.0 ≡ false = ap (λ (r : Receipt × ClusterState). is_accepted r.0) e in
    absurd cc

refused_by : (new held : ClusterState) (wants : ℕ) (result : Receipt × ClusterState) (same : Bool)
    → result ≡ outcome new held wants same → is_accepted result.0 ≡ false → same ≡ false
refused_by new held wants result true e refuses =
    let yes : is_accepted result.0 ≡ true = ap (λ (r : Receipt × ClusterState). is_accepted r.0) e in
    absurd cc
refused_by new held wants result false e refuses = refl

old_or_new : (new held : ClusterState) (wants : ℕ) (result : Receipt × ClusterState) (same : Bool)
    → result ≡ outcome new held wants same → (result.1 ≡ held) ⊎ (result.1 ≡ new)
old_or_new new held wants result true e = inr (ap (λ (r : Receipt × ClusterState). r.1) e)
old_or_new new held wants result false e = inl (ap (λ (r : Receipt × ClusterState). r.1) e)

pub holds_by_diff : (change : Change) (diff full : Message) (before after : LinkMeaning) → AreMessagesOf change diff full
    → CanTake change.prev change.new before → is_in change.prev before ≡ true → IsAccepted diff before after → Holds change true before after
holds_by_diff change diff full before after are can there taken =
    let comes = diff_comes change diff full before are can in
    let made = made_by change.new before.held change.prev.id (received before.held diff) (before.held.id == change.prev.id) comes taken.takes in
    record {
      sent = ap (λ (b : Bool). b && (before.held.id == change.prev.id)) there ∙ made.0;
      link =
          taken.link
          ∙ (ap (λ (s : ClusterState). after_taken (target_id diff) s before after.faults) made.1
          ∙ ap (λ (id : ℕ). after_taken id change.new before after.faults) (diff_leads change diff full are));
      faults = taken.faults;
    }

-- a refused diff wasn't made from what is held, before and after
pub diff_not_for : (change : Change) (diff full : Message) (before after : LinkMeaning) → AreMessagesOf change diff full
    → CanTake change.prev change.new before → is_in change.prev before ≡ true → IsRefused diff before after → is_sent_diff change.prev after ≡ false
diff_not_for change diff full before after are can there refused =
    let comes = diff_comes change diff full before are can in
    let no = refused_by change.new before.held change.prev.id (received before.held diff) (before.held.id == change.prev.id) comes refused.refuses in
    ap (λ (l : LinkMeaning). is_sent_diff change.prev l) refused.link ∙ (ap (λ (b : Bool). b && (before.held.id == change.prev.id)) there ∙ no)

-- ---- want of memory

sent_left : (new : ClusterState) (message : Message) (before after : LinkMeaning)
    → ((received before.held message).1 ≡ before.held) ⊎ ((received before.held message).1 ≡ new) → HoldsOldOrSent message before after → HoldsOldOrNew new before after
sent_left new message before after came left = record {
  name = ap (λ (l : LinkMeaning). l.name) left.rest;
  held = elim left.held [ inl e ↦ inl e | inr e ↦ elim came [ inl x ↦ inl (e ∙ x) | inr x ↦ inr (e ∙ x) ] ];
}

pub diff_left : (change : Change) (diff full : Message) (before after : LinkMeaning) → AreMessagesOf change diff full
    → CanTake change.prev change.new before → HoldsOldOrSent diff before after → HoldsOldOrNew change.new before after
diff_left change diff full before after are can left =
    let comes = diff_comes change diff full before are can in
    sent_left change.new diff before after (old_or_new change.new before.held change.prev.id (received before.held diff) (before.held.id == change.prev.id) comes) left

pub full_left : (change : Change) (diff full : Message) (before after : LinkMeaning) → AreMessagesOf change diff full
    → HoldsOldOrSent full before after → HoldsOldOrNew change.new before after
full_left change diff full before after are left =
    sent_left change.new full before after (inr (ap (λ (r : Receipt × ClusterState). r.1) (full_comes change diff full before are))) left

-- the messages are those of what contracts see
pub messages_of : (change inside : Change) (diff full : Message) → inside ≡ change → AreMessagesOf inside diff full → AreMessagesOf change diff full
messages_of change inside diff full e are = rw (← e) are

-- what holds, where it was asked of an `Err`
pub on_err : {A E : Type 0} (result : Result A E) {P : Type 0} → P → OnErr result P
on_err (Ok _) p = tt
on_err (Err _) p = p
