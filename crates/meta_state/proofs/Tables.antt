-- The table of aliases: what its steps do to it, and that it goes on to agree with the indices as they change.
use Rattle.std.proofs.Common.{◌≡◌, ℕ, Bool, true, false, not, ◌&&◌, ◌||◌, cond, List, [], ◌∷◌, Some, None, Option, refl, sym, ◌∙◌, ap, subst}
use Rattle.std.specs.Option.{is_some}
use Rattle.std.specs.List.{filter}
use Rattle.std.specs.Map.{keys_of}
use Rattle.std.proofs.lemmas.Map.Entries.{option_filter}
use Rattle.plain_data.specs.Pairs.{lookup, with, without, InOrder}
use Rattle.plain_data.proofs.At.{in_order_empty, in_order_with, in_order_without}
use Rattle.plain_data.proofs.Lookups.{is_key, same_from_key, differ_from_key, key_from_differ, key_flipped, lookup-with, lookup-without, lookup-without_other, lookup-filtered, in_order_filtered, same_keys}
use Rattle.meta_state.specs.declared.index_metadata.IndexMetadata.{IndexMetadata}
use Rattle.meta_state.specs.Aliases.{is_aliased, has_alias, names_with}
use Rattle.meta_state.specs.Tables.{Names, has, aliases_of, aliases_at, listed, has_names, holders, IsTable, AgreeBut, entered, relisted, struck, retold, all_entered, all_struck}

abbrev Table : Type 0
Table = List (List ℕ × Names)

-- ---- sets of names

has-with : (k q : List ℕ) (names : Names) → has q (with k tt names) ≡ (is_key k q || has q names)
has-with k q names =
    ap is_some (lookup-with k tt q names) ∙
    elim (is_key k q) as (λ b. is_some (cond b (Some tt) (lookup q names)) ≡ (b || has q names)) [
      | true ↦ refl
      | false ↦ refl
    ]

has-without : (k q : List ℕ) (names : Names) → InOrder names → has q (without k names) ≡ (not (is_key k q) && has q names)
has-without k q names s =
    ap is_some (lookup-without k q names s) ∙
    elim (is_key k q) as (λ b. is_some (cond b None (lookup q names)) ≡ (not b && has q names)) [
      | true ↦ refl
      | false ↦ refl
    ]

-- ---- tables in order

record AreInOrder (table : Table) : Type 0 where
  aliases : InOrder table
  holders_of : (alias : List ℕ) → InOrder (holders alias table)

holders-with : (alias a : List ℕ) (names : Names) (table : Table) → holders a (with alias names table) ≡ cond (is_key alias a) names (holders a table)
holders-with alias a names table =
    ap listed (lookup-with alias names a table) ∙
    elim (is_key alias a) as (λ b. listed (cond b (Some names) (lookup a table)) ≡ cond b names (holders a table)) [
      | true ↦ refl
      | false ↦ refl
    ]

holders-without : (alias a : List ℕ) (table : Table) → InOrder table → holders a (without alias table) ≡ cond (is_key alias a) [] (holders a table)
holders-without alias a table s =
    ap listed (lookup-without alias a table s) ∙
    elim (is_key alias a) as (λ b. listed (cond b None (lookup a table)) ≡ cond b [] (holders a table)) [
      | true ↦ refl
      | false ↦ refl
    ]

holders-relisted : (alias a : List ℕ) (names : Names) (table : Table) → InOrder table → holders a (relisted alias names table) ≡ cond (is_key alias a) names (holders a table)
holders-relisted alias a [] table s = holders-without alias a table s
holders-relisted alias a (p ∷ ps) table s = holders-with alias a (p ∷ ps) table

relisted_in_order : (alias : List ℕ) (names : Names) (table : Table) → InOrder table → InOrder (relisted alias names table)
relisted_in_order alias [] table s = in_order_without alias table _ s (λ _. refl)
relisted_in_order alias (p ∷ ps) table s = in_order_with alias (p ∷ ps) table _ s (λ _. refl)

-- other names under one alias
holders_stay : (alias : List ℕ) (names : Names) (table made : Table) → AreInOrder table → InOrder names
    → ((a : List ℕ) → holders a made ≡ cond (is_key alias a) names (holders a table)) → (a : List ℕ) → InOrder (holders a made)
holders_stay alias names table made s n is a =
    let by : (b : Bool) → InOrder (cond b names (holders a table)) =
    λ b. elim b as (λ b. InOrder (cond b names (holders a table))) [
      | true ↦ n
      | false ↦ s.holders_of a
    ] in
    subst InOrder (sym (is a)) (by (is_key alias a))

entered_in_order : (name alias : List ℕ) (table : Table) → AreInOrder table → AreInOrder (entered name alias table)
entered_in_order name alias table s =
    let names : Names = with name tt (holders alias table) in
    record {
      aliases = in_order_with alias names table _ s.aliases (λ _. refl);
      holders_of = holders_stay alias names table _ s (in_order_with name tt (holders alias table) _ (s.holders_of alias) (λ _. refl)) (λ a. holders-with alias a names table);
    }

struck_in_order : (name alias : List ℕ) (table : Table) → AreInOrder table → AreInOrder (struck name alias table)
struck_in_order name alias table s =
    let names : Names = without name (holders alias table) in
    record {
      aliases = relisted_in_order alias names table s.aliases;
      holders_of = holders_stay alias names table _ s (in_order_without name (holders alias table) _ (s.holders_of alias) (λ _. refl)) (λ a. holders-relisted alias a names table s.aliases);
    }

all_entered_in_order : (name : List ℕ) (aliases : Names) (table : Table) → AreInOrder table → AreInOrder (all_entered name aliases table)
all_entered_in_order name [] table s = s
all_entered_in_order name (p ∷ ps) table s = all_entered_in_order name ps (entered name p.0 table) (entered_in_order name p.0 table s)

all_struck_in_order : (name : List ℕ) (aliases : Names) (table : Table) → AreInOrder table → AreInOrder (all_struck name aliases table)
all_struck_in_order name [] table s = s
all_struck_in_order name (p ∷ ps) table s = all_struck_in_order name ps (struck name p.0 table) (struck_in_order name p.0 table s)

-- ---- which names a table lists after its steps

-- whether a table lists a name under an alias
abbrev lists : Table → List ℕ → List ℕ → Bool
lists table a q = has q (holders a table)

lists-entered : (name alias : List ℕ) (table : Table) (a q : List ℕ) → lists (entered name alias table) a q ≡ ((is_key alias a && is_key name q) || lists table a q)
lists-entered name alias table a q =
    let by : (b : Bool) → is_key alias a ≡ b → has q (cond b (with name tt (holders alias table)) (holders a table)) ≡ ((b && is_key name q) || lists table a q) =
    λ b. elim b as (λ b. is_key alias a ≡ b → has q (cond b (with name tt (holders alias table)) (holders a table)) ≡ ((b && is_key name q) || lists table a q)) [
      | true ↦ λ e. has-with name q (holders alias table) ∙ ap (λ (x : List ℕ). is_key name q || lists table x q) (same_from_key alias a e)
      | false ↦ λ e. refl
    ] in
    ap (has q) (holders-with alias a (with name tt (holders alias table)) table) ∙ by (is_key alias a) refl

lists-struck : (name alias : List ℕ) (table : Table) → AreInOrder table → (a q : List ℕ) → lists (struck name alias table) a q ≡ (not (is_key alias a && is_key name q) && lists table a q)
lists-struck name alias table s a q =
    let by : (b : Bool) → is_key alias a ≡ b → has q (cond b (without name (holders alias table)) (holders a table)) ≡ (not (b && is_key name q) && lists table a q) =
    λ b. elim b as (λ b. is_key alias a ≡ b → has q (cond b (without name (holders alias table)) (holders a table)) ≡ (not (b && is_key name q) && lists table a q)) [
      | true ↦ λ e. has-without name q (holders alias table) (s.holders_of alias) ∙ ap (λ (x : List ℕ). not (is_key name q) && lists table x q) (same_from_key alias a e)
      | false ↦ λ e. refl
    ] in
    ap (has q) (holders-relisted alias a (without name (holders alias table)) table s.aliases) ∙ by (is_key alias a) refl

-- whether the first of a set is an alias, or one of the others
has-cons : (a : List ℕ) (p : List ℕ × Unit {0}) (ps : Names) → has a (p ∷ ps) ≡ (is_key p.0 a || has a ps)
has-cons a p ps =
    ap (λ (b : Bool). is_some (cond b (Some p.1) (lookup a ps))) (key_flipped a p.0) ∙
    elim (is_key p.0 a) as (λ b. is_some (cond b (Some p.1) (lookup a ps)) ≡ (b || has a ps)) [
      | true ↦ refl
      | false ↦ refl
    ]

one_more : (x y z l : Bool) → ((x && z) || ((y && z) || l)) ≡ (((y || x) && z) || l)
one_more true true true l = refl
one_more true true false l = refl
one_more true false true l = refl
one_more true false false l = refl
one_more false true true l = refl
one_more false true false l = refl
one_more false false z l = refl

one_less : (x y z l : Bool) → (not (x && z) && (not (y && z) && l)) ≡ (not ((y || x) && z) && l)
one_less true true true l = refl
one_less true true false l = refl
one_less true false true l = refl
one_less true false false l = refl
one_less false true true l = refl
one_less false true false l = refl
one_less false false z l = refl

lists-all_entered : (name : List ℕ) (aliases : Names) (table : Table) (a q : List ℕ) → lists (all_entered name aliases table) a q ≡ ((has a aliases && is_key name q) || lists table a q)
lists-all_entered name [] table a q = refl
lists-all_entered name (p ∷ ps) table a q =
    lists-all_entered name ps (entered name p.0 table) a q ∙
    (ap (λ (b : Bool). (has a ps && is_key name q) || b) (lists-entered name p.0 table a q) ∙
    (one_more (has a ps) (is_key p.0 a) (is_key name q) (lists table a q) ∙
    ap (λ (b : Bool). (b && is_key name q) || lists table a q) (sym (has-cons a p ps))))

lists-all_struck : (name : List ℕ) (aliases : Names) (table : Table) → AreInOrder table → (a q : List ℕ) → lists (all_struck name aliases table) a q ≡ (not (has a aliases && is_key name q) && lists table a q)
lists-all_struck name [] table s a q = refl
lists-all_struck name (p ∷ ps) table s a q =
    lists-all_struck name ps (struck name p.0 table) (struck_in_order name p.0 table s) a q ∙
    (ap (λ (b : Bool). not (has a ps && is_key name q) && b) (lists-struck name p.0 table s a q) ∙
    (one_less (has a ps) (is_key p.0 a) (is_key name q) (lists table a q) ∙
    ap (λ (b : Bool). not (b && is_key name q) && lists table a q) (sym (has-cons a p ps))))

-- ---- the table and the indices after a change of both

order_of : (table : Table) (indices : List (List ℕ × IndexMetadata)) → IsTable table indices → AreInOrder table
order_of table indices t = record { aliases = t.aliases_in_order; holders_of = t.holders_in_order }

pub table_of_none : IsTable [] []
table_of_none = record {
  indices_in_order = in_order_empty {V = IndexMetadata} [] refl;
  aliases_in_order = in_order_empty {V = Names} [] refl;
  holders_in_order = λ alias. in_order_empty {V = Unit {0}} [] refl;
  agrees = λ alias name. refl;
}

here : (got lost had : Bool) → ((got && true) || (not (lost && true) && had)) ≡ (got || (not lost && had))
here true lost had = refl
here false true had = refl
here false false had = refl

there : (got lost had : Bool) → ((got && false) || (not (lost && false) && had)) ≡ had
there true true had = refl
there true false had = refl
there false true had = refl
there false false had = refl

-- an index put in, where its aliases are those that it had, but for some that it lost and some that it got
moved : (table : Table) (indices : List (List ℕ × IndexMetadata)) (name : List ℕ) (index : IndexMetadata) (lost got : Names) → IsTable table indices
    → ((a : List ℕ) → has a index.aliases ≡ (has a got || (not (has a lost) && has a (aliases_at name indices))))
    → IsTable (all_entered name got (all_struck name lost table)) (with name index indices)
moved table indices name index lost got t is =
    let s : AreInOrder table = order_of table indices t in
    let less : AreInOrder (all_struck name lost table) = all_struck_in_order name lost table s in
    let more : AreInOrder (all_entered name got (all_struck name lost table)) = all_entered_in_order name got _ less in
    let listing : (a q : List ℕ) → lists (all_entered name got (all_struck name lost table)) a q ≡ ((has a got && is_key name q) || (not (has a lost && is_key name q) && has a (aliases_at q indices))) =
    λ a q. lists-all_entered name got (all_struck name lost table) a q ∙
    ap (λ (b : Bool). (has a got && is_key name q) || b) (lists-all_struck name lost table s a q ∙ ap (λ (b : Bool). not (has a lost && is_key name q) && b) (t.agrees a q)) in
    let by : (a q : List ℕ) (b : Bool) → is_key name q ≡ b → ((has a got && b) || (not (has a lost && b) && has a (aliases_at q indices))) ≡ has a (aliases_of (cond b (Some index) (lookup q indices))) =
    λ a q b. elim b as (λ b. is_key name q ≡ b → ((has a got && b) || (not (has a lost && b) && has a (aliases_at q indices))) ≡ has a (aliases_of (cond b (Some index) (lookup q indices)))) [
      | true ↦ λ e. here (has a got) (has a lost) _ ∙ (ap (λ (x : List ℕ). has a got || (not (has a lost) && has a (aliases_at x indices))) (sym (same_from_key name q e)) ∙ sym (is a))
      | false ↦ λ e. there (has a got) (has a lost) _
    ] in
    record {
      indices_in_order = in_order_with name index indices _ t.indices_in_order (λ _. refl);
      aliases_in_order = more.aliases;
      holders_in_order = more.holders_of;
      agrees = λ a q. listing a q ∙ (by a q (is_key name q) refl ∙ ap (λ (o : Option IndexMetadata). has a (aliases_of o)) (sym (lookup-with name index q indices)));
    }

all_new : (got had : Bool) → got ≡ (got || (not had && had))
all_new true had = refl
all_new false true = refl
all_new false false = refl

-- an index put in place of any other
pub table_set : (table less made : Table) (indices changed : List (List ℕ × IndexMetadata)) (name : List ℕ) (index : IndexMetadata) → IsTable table indices
    → less ≡ all_struck name (aliases_at name indices) table → made ≡ all_entered name index.aliases less → changed ≡ with name index indices → IsTable made changed
table_set table less made indices changed name index t e f g =
    rw (f, e, g) (moved table indices name index (aliases_at name indices) index.aliases t (λ a. all_new (has a index.aliases) (has a (aliases_at name indices))))

-- an index put in place of one that has the same aliases
pub table_set_keeping : (table : Table) (indices changed : List (List ℕ × IndexMetadata)) (name : List ℕ) (index : IndexMetadata) → IsTable table indices
    → index.aliases ≡ aliases_at name indices → changed ≡ with name index indices → IsTable table changed
table_set_keeping table indices changed name index t e g =
    rw g (moved table indices name index [] [] t (λ a. ap (has a) e))

-- an index put in place of one whose aliases differ at most in one
module _ (table : Table) (indices : List (List ℕ × IndexMetadata)) (name alias : List ℕ) (index : IndexMetadata) (t : IsTable table indices) (but : AgreeBut alias index.aliases (aliases_at name indices)) where
  entering : has alias index.aliases ≡ true → IsTable (entered name alias table) (with name index indices)
  entering there =
      let at_one : (a : List ℕ) (b : Bool) → is_key a alias ≡ b → has a index.aliases ≡ (is_some (cond b (Some tt) None) || has a (aliases_at name indices)) =
      λ a b. elim b as (λ b. is_key a alias ≡ b → has a index.aliases ≡ (is_some (cond b (Some tt) None) || has a (aliases_at name indices))) [
        | true ↦ λ e. ap (λ (x : List ℕ). has x index.aliases) (same_from_key a alias e) ∙ there
        | false ↦ λ e. but a (differ_from_key a alias e)
      ] in
      moved table indices name index [] ((alias, tt) ∷ []) t (λ a. at_one a (is_key a alias) refl)

  striking : has alias index.aliases ≡ false → IsTable (struck name alias table) (with name index indices)
  striking gone =
      let at_one : (a : List ℕ) (b : Bool) → is_key a alias ≡ b → has a index.aliases ≡ (not (is_some (cond b (Some tt) None)) && has a (aliases_at name indices)) =
      λ a b. elim b as (λ b. is_key a alias ≡ b → has a index.aliases ≡ (not (is_some (cond b (Some tt) None)) && has a (aliases_at name indices))) [
        | true ↦ λ e. ap (λ (x : List ℕ). has x index.aliases) (same_from_key a alias e) ∙ gone
        | false ↦ λ e. but a (differ_from_key a alias e)
      ] in
      moved table indices name index ((alias, tt) ∷ []) [] t (λ a. at_one a (is_key a alias) refl)

  pub table_set_changing : (made : Table) (changed : List (List ℕ × IndexMetadata)) → made ≡ retold name alias index.aliases table → changed ≡ with name index indices → IsTable made changed
  table_set_changing made changed f g =
      let by : (b : Bool) → has alias index.aliases ≡ b → IsTable (cond b (entered name alias table) (struck name alias table)) (with name index indices) =
      λ b. elim b as (λ b. has alias index.aliases ≡ b → IsTable (cond b (entered name alias table) (struck name alias table)) (with name index indices)) [
        | true ↦ entering
        | false ↦ striking
      ] in
      rw (f, g) (by (has alias index.aliases) refl)

-- the aliases of an index that was changed, beside those of the index that stands at its name
module _ (name : List ℕ) (index : IndexMetadata) (indices : List (List ℕ × IndexMetadata)) (found : Some index ≡ lookup name indices) where
  pub same_aliases : (made : Names) → made ≡ index.aliases → made ≡ aliases_at name indices
  same_aliases made is = is ∙ ap aliases_of found

  pub one_alias_more : (alias : List ℕ) (made : Names) → made ≡ with alias tt index.aliases → AgreeBut alias made (aliases_at name indices)
  one_alias_more alias made is a other =
      ap (has a) is ∙ (has-with alias a index.aliases ∙ (ap (λ (b : Bool). b || has a index.aliases) (key_from_differ alias a other) ∙ ap (has a) (ap aliases_of found)))

  pub one_alias_less : (alias : List ℕ) (made : Names) → made ≡ without alias index.aliases → AgreeBut alias made (aliases_at name indices)
  one_alias_less alias made is a other =
      ap (has a) is ∙ (ap is_some (lookup-without_other alias a index.aliases (key_from_differ alias a other)) ∙ ap (has a) (ap aliases_of found))

-- ---- an index taken out

not_and_true : (b c : Bool) → b ≡ c → (not (c && true) && b) ≡ false
not_and_true true true e = refl
not_and_true false false e = refl
not_and_true true false e = absurd cc
not_and_true false true e = absurd cc

not_and_false : (b c : Bool) → (not (c && false) && b) ≡ b
not_and_false b true = refl
not_and_false b false = refl

pub table_remove : (table made : Table) (indices changed : List (List ℕ × IndexMetadata)) (name : List ℕ) → IsTable table indices
    → made ≡ all_struck name (aliases_at name indices) table → changed ≡ without name indices → IsTable made changed
table_remove table made indices changed name t f g =
    let s : AreInOrder table = order_of table indices t in
    let less : AreInOrder (all_struck name (aliases_at name indices) table) = all_struck_in_order name (aliases_at name indices) table s in
    let by : (a q : List ℕ) (b : Bool) → is_key name q ≡ b → (not (has a (aliases_at name indices) && b) && has a (aliases_at q indices)) ≡ has a (aliases_of (cond b None (lookup q indices))) =
    λ a q b. elim b as (λ b. is_key name q ≡ b → (not (has a (aliases_at name indices) && b) && has a (aliases_at q indices)) ≡ has a (aliases_of (cond b None (lookup q indices)))) [
      | true ↦ λ e. not_and_true (has a (aliases_at q indices)) (has a (aliases_at name indices)) (ap (λ (x : List ℕ). has a (aliases_at x indices)) (sym (same_from_key name q e)))
      | false ↦ λ e. not_and_false (has a (aliases_at q indices)) (has a (aliases_at name indices))
    ] in
    let whole : IsTable (all_struck name (aliases_at name indices) table) (without name indices) = record {
      indices_in_order = in_order_without name indices _ t.indices_in_order (λ _. refl);
      aliases_in_order = less.aliases;
      holders_in_order = less.holders_of;
      agrees = λ a q. lists-all_struck name (aliases_at name indices) table s a q ∙
          (ap (λ (b : Bool). not (has a (aliases_at name indices) && is_key name q) && b) (t.agrees a q) ∙
          (by a q (is_key name q) refl ∙ ap (λ (o : Option IndexMetadata). has a (aliases_of o)) (sym (lookup-without name q indices t.indices_in_order))));
    } in
    rw (f, g) whole

-- ---- what a table tells of the indices

is_some-filtered : (alias : List ℕ) (o : Option IndexMetadata) → has alias (aliases_of o) ≡ is_some (option_filter (is_aliased alias) o)
is_some-filtered alias None = refl
is_some-filtered alias (Some index) = elim (is_aliased alias index) as (λ b. b ≡ is_some (cond b (Some index) None)) [
  | true ↦ refl
  | false ↦ refl
]

abbrev has_any : List (List ℕ) → Bool
has_any [] = false
has_any (x ∷ xs) = true

has_any-names_with : (alias : List ℕ) (indices : List (List ℕ × IndexMetadata)) → has_any (names_with alias indices) ≡ has_alias alias indices
has_any-names_with alias [] = refl
has_any-names_with alias (p ∷ ps) =
    let rest : has_any (names_with alias ps) ≡ has_alias alias ps = has_any-names_with alias ps in
    elim (is_aliased alias p.1) as (λ b. has_any (keys_of (cond b (p ∷ filter (λ p. is_aliased alias p.1) ps) (filter (λ p. is_aliased alias p.1) ps))) ≡ (b || has_alias alias ps)) [
      | true ↦ refl
      | false ↦ rest
    ]

has_names-listed : (names : Option Names) → has_names names ≡ has_any (keys_of (listed names))
has_names-listed None = refl
has_names-listed (Some []) = refl
has_names-listed (Some (p ∷ ps)) = refl

pub names_from_table : (table : Table) (indices : List (List ℕ × IndexMetadata)) (alias : List ℕ) → IsTable table indices → keys_of (holders alias table) ≡ names_with alias indices
names_from_table table indices alias t =
    same_keys (holders alias table) (filter (λ p. is_aliased alias p.1) indices) (t.holders_in_order alias) (in_order_filtered (is_aliased alias) indices t.indices_in_order)
    (λ q. t.agrees alias q ∙ (is_some-filtered alias (lookup q indices) ∙ ap is_some (sym (lookup-filtered (is_aliased alias) q indices t.indices_in_order))))

pub alias_from_table : (table : Table) (indices : List (List ℕ × IndexMetadata)) (alias : List ℕ) → IsTable table indices → has_names (lookup alias table) ≡ has_alias alias indices
alias_from_table table indices alias t =
    has_names-listed (lookup alias table) ∙ (ap has_any (names_from_table table indices alias t) ∙ has_any-names_with alias indices)
