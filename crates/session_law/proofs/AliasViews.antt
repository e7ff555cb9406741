-- What a view keeps under an alias: the names of the indices that have it, as a look finds them.
use Rattle.std.specs.Prelude.{◌≡◌, ℕ, Bool, true, false, List, [], ◌∷◌, ◌++◌, Option, Some, None, filter, is_some, map, unwrap_or, refl}
use Rattle.std.proofs.Common.{sym, ap, ◌∙◌, cond, append_assoc, append-nil}
use Rattle.std.specs.List.{AllByRecursion}
use Rattle.std.specs.List.Sorted.{IsStrictlySortedBy}
use Rattle.std.proofs.lemmas.Cmp.{nat_list_cmp_total, eq_by_cmp_equiv}
use Rattle.std.proofs.lemmas.Map.{lookup-none}
use Rattle.std.proofs.lemmas.Map.Entries.{none_past_head}
use Rattle.std.proofs.lemmas.Map.Keys.{IsDistinct-from_sorted}
use Rattle.plain_data.proofs.Lookups.{is_key, key_flipped, lookup-with, same_from_key}
use Rattle.plain_data.specs.Pairs.{InOrder, lookup}
use Rattle.meta_state.specs.declared.index_metadata.IndexMetadata.{IndexMetadata}
use Rattle.meta_state.specs.Aliases.{is_aliased, names_with}
use Rattle.meta_state.specs.Looks.{found_at, found_names}
use Rattle.session_law.specs.Laws.{ViewsAgreeWithLooks, found_in}
use Rattle.session_law.specs.Views.{views_of, with_aliases, with_aliases_of_all, with_name}

-- ---- one index

-- an entry with a name more
abbrev named : List ℕ → Option (List (List ℕ)) → Option (List (List ℕ))
named index before = Some (unwrap_or before [] ++ index ∷ [])

-- an alias that is the one looked for, of an index, isn't among the others
absent : (alias : List ℕ) (x : List ℕ × Unit {0}) (xs : List (List ℕ × Unit {0})) → InOrder (x ∷ xs) → is_key alias x.0 ≡ true → lookup alias xs ≡ None
absent alias x xs h e = lookup-none (is_key alias) xs (none_past_head (eq_by_cmp_equiv nat_list_cmp_total) alias x xs (IsDistinct-from_sorted _ _ h) e)

by_key : (alias k index : List ℕ) (names : List (List ℕ × List (List ℕ))) (b : Bool) → is_key alias k ≡ b
    → cond b (named index (lookup k names)) (lookup alias names) ≡ cond b (named index (lookup alias names)) (lookup alias names)
by_key alias k index names true e = ap (λ q. named index (lookup q names)) (sym (same_from_key alias k e))
by_key alias k index names false e = refl

by_first : (index : List ℕ) (b : Bool) (x : Unit {0}) (others : Option (Unit {0})) (before after : Option (List (List ℕ))) → (b ≡ true → others ≡ None)
    → after ≡ cond b (named index before) before
    → cond (is_some others) (named index after) after ≡ cond (is_some (cond b (Some x) others)) (named index before) before
by_first index true x others before after h e = ap (λ (o : Option (Unit {0})). cond (is_some o) (named index after) after) (h refl) ∙ e
by_first index false x others before after h e = ap (λ (a : Option (List (List ℕ))). cond (is_some others) (named index a) a) e

-- an index puts its name behind those of each alias that it has
one_more : (alias index : List ℕ) (aliases : List (List ℕ × Unit {0})) (names : List (List ℕ × List (List ℕ))) → InOrder aliases
    → lookup alias (with_aliases index aliases names) ≡ cond (is_some (lookup alias aliases)) (named index (lookup alias names)) (lookup alias names)
unfolding IsStrictlySortedBy
one_more alias index [] names h = refl
one_more alias index (x ∷ xs) names h =
    let put = with_name x.0 index names in
    one_more alias index xs put h.1 ∙
    by_first index (is_key alias x.0) x.1 (lookup alias xs) (lookup alias names) (lookup alias put) (absent alias x xs h)
    (lookup-with x.0 (unwrap_or (lookup x.0 names) [] ++ index ∷ []) alias names ∙
    (ap (λ (b : Bool). cond b (named index (lookup x.0 names)) (lookup alias names)) (key_flipped x.0 alias) ∙
    by_key alias x.0 index names (is_key alias x.0) refl))

-- ---- all indices

-- no entry where there is no name
abbrev some_names : List (List ℕ) → Option (List (List ℕ))
some_names [] = None
some_names (name ∷ names) = Some (name ∷ names)

names_back : (names : List (List ℕ)) → unwrap_or (some_names names) [] ≡ names
names_back [] = refl
names_back (name ∷ names) = refl

some_more : (names : List (List ℕ)) (name : List ℕ) → Some (names ++ name ∷ []) ≡ some_names (names ++ name ∷ [])
some_more [] name = refl
some_more (first ∷ names) name = refl

by_index : (has : Bool) (index : List ℕ) (names : List (List ℕ)) (before : Option (List (List ℕ))) → before ≡ some_names names
    → cond has (named index before) before ≡ some_names (cond has (names ++ index ∷ []) names)
by_index true index names before e = ap (named index) e ∙ (ap (λ l. Some (l ++ index ∷ [])) (names_back names) ∙ some_more names index)
by_index false index names before e = e

by_rest : (has : Bool) (p : List ℕ × IndexMetadata) (kept : List (List ℕ × IndexMetadata)) (names : List (List ℕ))
    → cond has (names ++ p.0 ∷ []) names ++ map (λ p. p.0) kept ≡ names ++ map (λ p. p.0) (cond has (p ∷ kept) kept)
by_rest true p kept names = append_assoc names (p.0 ∷ []) (map (λ p. p.0) kept)
by_rest false p kept names = refl

all_more : (alias : List ℕ) (indices : List (List ℕ × IndexMetadata)) (view : List (List ℕ × List (List ℕ))) (names : List (List ℕ))
    → AllByRecursion (λ p. InOrder p.1.aliases) indices → lookup alias view ≡ some_names names
    → lookup alias (with_aliases_of_all indices view) ≡ some_names (names ++ names_with alias indices)
all_more alias [] view names h e = e ∙ ap some_names (sym (append-nil names))
all_more alias (p ∷ ps) view names h e =
    let has = is_aliased alias p.1 in
    let kept = filter (λ p. is_aliased alias p.1) ps in
    all_more alias ps (with_aliases p.0 p.1.aliases view) (cond has (names ++ p.0 ∷ []) names) h.1
    (one_more alias p.0 p.1.aliases view h.0 ∙ by_index has p.0 names (lookup alias view) e) ∙
    ap some_names (by_rest has p kept names)

found_names_in : (names : List (List ℕ)) → found_in (some_names names) ≡ found_names names
found_names_in [] = refl
found_names_in (name ∷ names) = refl

pub views_agree_with_looks : ViewsAgreeWithLooks
unfolding views_of found_at
views_agree_with_looks state alias h =
    ap found_in (all_more alias state.metadata.indices [] [] h refl) ∙ found_names_in (names_with alias state.metadata.indices)
