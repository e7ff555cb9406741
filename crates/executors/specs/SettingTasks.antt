-- What a task of the cluster settings does to a state, after Elasticsearch's `TransportClusterUpdateSettingsAction`: a
-- value is set, and one that is null is removed. Which keys and values there are is this project's own.
use Rattle.std.specs.Prelude.{ℕ, Bool, false, not, ◌==◌, ◌&&◌, ◌||◌, List, Some, None, Option, length, nat_le, nat_lt, if◌then◌else◌}
use Rattle.std.specs.List.{list_all}
use Rattle.plain_data.specs.Pairs.{with, without}
use Rattle.meta_state.specs.declared.cluster_state.ClusterState.{ClusterState}
use Rattle.executors.specs.declared.refusals.TaskRefusal.{TaskRefusal}
use Rattle.executors.specs.declared.refusals.TaskRefusal.TheVariants.{BadValue}
use Rattle.executors.specs.Letters.{begins_well, is_letter_or_digit}

-- a letter, a digit, `.`, `_` or `-`
abbrev pub is_key_byte : ℕ → Bool
is_key_byte b = is_letter_or_digit b || ((b == 0x2E) || ((b == 0x5F) || (b == 0x2D)))

-- the keys of settings: 1 to 255 of these bytes, the first a letter or a digit
abbrev pub is_key : List ℕ → Bool
is_key key = begins_well key && (nat_le (length key) 255 && list_all is_key_byte key)

-- a value has 1,024 bytes at most; none removes the key
abbrev pub is_too_long : Option (List ℕ) → Bool
is_too_long None = false
is_too_long (Some value) = nat_lt 1024 (length value)

abbrev pub setting_refusal : List ℕ → Option (List ℕ) → Option TaskRefusal
setting_refusal key value = if not (is_key key) || is_too_long value then Some BadValue else None

-- the settings with a value at a key, or without the key; to remove an absent key changes nothing
abbrev pub settings_with : List (List ℕ × List ℕ) → List ℕ → Option (List ℕ) → List (List ℕ × List ℕ)
settings_with settings key None = without key settings
settings_with settings key (Some value) = with key value settings

abbrev pub set_in : ClusterState → List ℕ → Option (List ℕ) → ClusterState
set_in state key value = record state { metadata = record state.metadata { settings = settings_with state.metadata.settings key value } }
