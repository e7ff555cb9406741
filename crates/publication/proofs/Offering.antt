-- What a refused message leaves: what is held, and whether this is ready to be handed. It is noted.
use Rattle.std.specs.Prelude.{◌≡◌, ◌≤◌, ℕ, Bool, false, ◌||◌, Option, Some, None, refl}
use Rattle.std.proofs.Common.{sym, ap, ◌∙◌}
use Rattle.meta_state.specs.declared.cluster_state.ClusterState.{ClusterState}
use Rattle.state_diff.specs.declared.state_diffs.DiffParts.{DiffParts}
use Rattle.publication.specs.declared.messages.Message.{Message}
use Rattle.publication.specs.declared.messages.Message.TheVariants.{Full, Diff}
use Rattle.publication.specs.declared.receipts.Receipt.TheVariants.{Incompatible}
use Rattle.publication.specs.LinkMeanings.{LinkMeaning, after_message, after_missed, sent_with}
use Rattle.publication.specs.Messages.{is_accepted, made_of, received, received_diff, target_id}
use Rattle.publication.specs.Offers.{IsRefused}

refused_diff : (diff : DiffParts) (held : ClusterState) (made : Option ClusterState) → is_accepted (received_diff diff held made).0 ≡ false
    → (received_diff diff held made).1 ≡ held
refused_diff diff held None e = refl
refused_diff diff held (Some made) e = absurd cc

pub refused_keeps : (held : ClusterState) (message : Message) → is_accepted (received held message).0 ≡ false → (received held message).1 ≡ held
unfolding received
refused_keeps held (Full state) e = absurd cc
refused_keeps held (Diff diff) e = refused_diff diff held (made_of diff held) e

-- a link of which the message left these
abbrev left : Message → LinkMeaning → LinkMeaning → ClusterState → Bool → LinkMeaning
left message before after held takes = record before {
  held = held;
  ready = takes || before.ready;
  faults = after.faults;
  last = Some (target_id message);
  sent = sent_with (target_id message) before;
}

refused_link : (message : Message) (before after : LinkMeaning) → is_accepted (received before.held message).0 ≡ false
    → after ≡ after_message message before after.faults → after ≡ after_missed message before after.faults
refused_link message before after refused link =
    link ∙ (ap (λ (h : ClusterState). left message before after h (is_accepted (received before.held message).0)) (refused_keeps before.held message refused)
    ∙ ap (λ (b : Bool). left message before after before.held b) refused)

pub is_refused : (message : Message) (before after : LinkMeaning) (has wants : ℕ) → Incompatible has wants ≡ (received before.held message).0
    → after ≡ after_message message before after.faults → before.faults ≤ after.faults → IsRefused message before after
is_refused message before after has wants receipt link faults =
    let refused : is_accepted (received before.held message).0 ≡ false = ap is_accepted (sym receipt) in
    record { refuses = refused; link = refused_link message before after refused link; faults = faults }
