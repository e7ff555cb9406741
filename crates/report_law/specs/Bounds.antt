-- Which numbers a session in memory can hold: each is one of 64 bits at most. It is no rule, but what the types of the
-- fields say, over which a law on all sessions speaks.
use Rattle.std.specs.Prelude.{◌<◌, ◌^◌, ℕ, List, Option, Some, None}
use Rattle.std.specs.List.{AllByRecursion}
use Rattle.meta_state.specs.declared.cluster_metadata.Metadata.{Metadata}
use Rattle.meta_state.specs.declared.index_metadata.IndexMetadata.{IndexMetadata}
use Rattle.meta_state.specs.declared.looks.Found.{Found}
use Rattle.meta_state.specs.declared.looks.Found.TheVariants as found
use Rattle.meta_state.specs.declared.cluster_state.ClusterState.{ClusterState}
use Rattle.session_law.specs.declared.task_ends.TaskEnd.{TaskEnd}
use Rattle.session_law.specs.declared.task_ends.TaskEnd.TheVariants as end
use Rattle.session_law.specs.declared.batches.Batch.{Batch}
use Rattle.session_law.specs.declared.batches.BatchResult.{BatchResult}
use Rattle.session_law.specs.declared.batches.BatchResult.TheVariants as result
use Rattle.session_law.specs.declared.batches.Entry.{Entry}
use Rattle.session_law.specs.declared.reads.Read.{Read}
use Rattle.session_law.specs.declared.node_records.Apply.{Apply}
use Rattle.session_law.specs.declared.node_records.ApplyEnd.{ApplyEnd}
use Rattle.session_law.specs.declared.node_records.ApplyEnd.TheVariants as apply
use Rattle.session_law.specs.declared.node_records.NodeRec.{NodeRec}
use Rattle.session_law.specs.declared.replies.AckEnd.{AckEnd}
use Rattle.session_law.specs.declared.replies.AckEnd.TheVariants as ack
use Rattle.session_law.specs.declared.replies.AckReply.{AckReply}
use Rattle.session_law.specs.declared.replies.Reply.{Reply}
use Rattle.session_law.specs.declared.sessions.Session.{Session}
use Rattle.session_law.specs.declared.watches.Watch.{Watch}
use Rattle.session_law.specs.declared.watches.WatchEnd.{WatchEnd}
use Rattle.session_law.specs.declared.watches.WatchEnd.TheVariants as watch

-- a number of 64 bits at most
abbrev pub IsWord : ℕ → Type 0
IsWord n = n < 2 ^ 64

-- ---- batches

pub record IsBoundedEntry (entry : Entry) : Type 0 where
  pub client : IsWord entry.client
  pub step : IsWord entry.step
  pub seen : IsWord entry.seen

abbrev pub IsBoundedResult : BatchResult → Type 0
IsBoundedResult (result.Published version id commit diffs fulls accepted) =
    IsWord version × IsWord id × IsWord commit × IsWord diffs × IsWord fulls × IsWord accepted
IsBoundedResult (result.Unchanged version) = IsWord version
IsBoundedResult (result.Failed position refusal) = IsWord position
IsBoundedResult result.NotMaster = Unit {0}
IsBoundedResult (result.PublishFailed id diffs fulls accepted) = IsWord id × IsWord diffs × IsWord fulls × IsWord accepted

pub record IsBoundedBatch (batch : Batch) : Type 0 where
  pub at : IsWord batch.at
  pub entries : AllByRecursion IsBoundedEntry batch.entries
  pub result : IsBoundedResult batch.result

-- ---- replies and acknowledgements

abbrev pub IsBoundedEnd : TaskEnd → Type 0
IsBoundedEnd (end.Ok version) = IsWord version
IsBoundedEnd (end.Unchanged version) = IsWord version
IsBoundedEnd (end.Refused refusal) = Unit {0}
IsBoundedEnd (end.BatchFailed position refusal) = IsWord position
IsBoundedEnd end.NotMaster = Unit {0}
IsBoundedEnd end.PublishFailed = Unit {0}
IsBoundedEnd (end.Timeout deadline reading) = IsWord deadline × IsWord reading
IsBoundedEnd (end.Closed client step) = IsWord client × IsWord step

pub record IsBoundedReply (reply : Reply) : Type 0 where
  pub client : IsWord reply.client
  pub step : IsWord reply.step
  pub at : IsWord reply.at
  pub end : IsBoundedEnd reply.end

abbrev pub IsBoundedAckEnd : AckEnd → Type 0
IsBoundedAckEnd ack.All = Unit {0}
IsBoundedAckEnd (ack.Failed count) = IsWord count
IsBoundedAckEnd (ack.Timeout deadline reading) = IsWord deadline × IsWord reading

pub record IsBoundedAck (ack : AckReply) : Type 0 where
  pub client : IsWord ack.client
  pub step : IsWord ack.step
  pub end : IsBoundedAckEnd ack.end

-- ---- watches and reads

abbrev pub IsBoundedLast : Option ℕ → Type 0
IsBoundedLast None = Unit {0}
IsBoundedLast (Some version) = IsWord version

abbrev pub IsBoundedWatchEnd : WatchEnd → Type 0
IsBoundedWatchEnd (watch.Answered version) = IsWord version
IsBoundedWatchEnd (watch.Timeout deadline reading) = IsWord deadline × IsWord reading
IsBoundedWatchEnd (watch.Closed client step) = IsWord client × IsWord step

pub record IsBoundedWatch (watch : Watch) : Type 0 where
  pub client : IsWord watch.client
  pub step : IsWord watch.step
  pub part : IsWord watch.part
  pub at : IsWord watch.at
  pub last : IsBoundedLast watch.last
  pub place : IsWord watch.place
  pub shown : IsWord watch.shown
  pub end : IsBoundedWatchEnd watch.end

abbrev pub IsBoundedFound : Found → Type 0
IsBoundedFound found.Missing = Unit {0}
IsBoundedFound (found.Index id opened shards replicas) = IsWord id × IsWord shards × IsWord replicas
IsBoundedFound (found.Names names) = Unit {0}
IsBoundedFound (found.Value text) = Unit {0}

pub record IsBoundedRead (read : Read) : Type 0 where
  pub client : IsWord read.client
  pub step : IsWord read.step
  pub version : IsWord read.version
  pub found : IsBoundedFound read.found

-- ---- records of nodes

abbrev pub IsBoundedApplyEnd : ApplyEnd → Type 0
IsBoundedApplyEnd apply.Failed = Unit {0}
IsBoundedApplyEnd (apply.Applied high normal low listeners change) = IsWord high × IsWord normal × IsWord low × IsWord listeners

pub record IsBoundedApply (apply : Apply) : Type 0 where
  pub from : IsWord apply.from
  pub to : IsWord apply.to
  pub end : IsBoundedApplyEnd apply.end

pub record IsBoundedNode (node : NodeRec) : Type 0 where
  pub handed : AllByRecursion IsWord node.handed
  pub first : IsWord node.first
  pub applies : AllByRecursion IsBoundedApply node.applies
  pub ids : AllByRecursion (λ (p : List ℕ × ℕ). IsWord p.1) node.view.indices

-- ---- the state

pub record IsBoundedIndex (index : IndexMetadata) : Type 0 where
  pub id : IsWord index.id
  pub version : IsWord index.version
  pub settings_version : IsWord index.settings_version
  pub aliases_version : IsWord index.aliases_version
  pub shards : IsWord index.shards
  pub replicas : IsWord index.replicas

pub record IsBoundedMetadata (metadata : Metadata) : Type 0 where
  pub version : IsWord metadata.version
  pub created : IsWord metadata.created
  pub indices : AllByRecursion (λ (p : List ℕ × IndexMetadata). IsBoundedIndex p.1) metadata.indices

pub record IsBoundedState (state : ClusterState) : Type 0 where
  pub id : IsWord state.id
  pub term : IsWord state.term
  pub version : IsWord state.version
  pub metadata : IsBoundedMetadata state.metadata

-- ---- the whole

pub record IsBoundedSession (session : Session) : Type 0 where
  pub batches : AllByRecursion IsBoundedBatch session.batches
  pub replies : AllByRecursion IsBoundedReply session.replies
  pub acks : AllByRecursion IsBoundedAck session.acks
  pub watches : AllByRecursion IsBoundedWatch session.watches
  pub reads : AllByRecursion IsBoundedRead session.reads
  pub nodes : AllByRecursion IsBoundedNode session.nodes
  pub last : IsBoundedState session.last
