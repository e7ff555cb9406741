-- How an `Items` holds its elements: as one list, so that a type may hold lists of its own values.
-- The prover asks for these names of every container through which a type leads back to itself.
use mathlib.Core.Path.{◌≡◌, refl, sym}
use mathlib.Core.List.{List, []}
use mathlib.Core.Former.{Former, this, list, via, children}
use base.Stored.{code_map}
use denote.RattleType.{RattleType}
use denote.Hole.Carrier.{listed, list-listed}
use denote.Hole.Fix.{over}
use denote.HoleLaws.{Alike}
use denote.HolePlaces.{Recodes, laid, struct_places}
use denote.Model.Placed.{view_places}
use denote.Param.Weighed.{Weighed, w_list}
use Rattle.std.specs.contracts.alloc.Global as global
use Rattle.std.specs.contracts.impls.GlobalAllocator.TheImpl.{ghosts}
use Rattle.std.specs.declared.alloc.Global.{Global}
use Rattle.std.specs.formers.vec.Vec as vec
use Rattle.plain_data.specs.contracts.lists.Items as whole
use Rattle.plain_data.specs.contracts.lists.Items.TheInside as inside
use Rattle.plain_data.specs.declared.lists.Items.TheInside.{Inside}
use Rattle.plain_data.specs.declared.lists.Items.TheView.{view, invariant}

-- its value is a list of what the type holds, and weighs what the heaviest element weighs
abbrev pub the_former : Former {0} → Former {0}
the_former element = list element

abbrev pub the_weighed : {element : Former {0}} → Weighed element → Weighed (the_former element)
the_weighed weight = w_list weight

-- a list may be empty, so it can end a value
pub the_empty : List ⊥
the_empty = []

abbrev pub the_items : (X : Type 0) → List X → List X
the_items X elements = elements

pub the_items_listed : (X : Type 0) (elements : List X) → listed _ (children (the_former this) X elements) ≡ the_items X elements
the_items_listed = list-listed

-- its one field is a vector
abbrev vector : Former {0}
vector = via (vec.the_former this Global) Inside (λ X kept. kept.inner) (λ X items. record { inner = items }) (λ X kept. refl) (λ X items. refl)

module _ (One Two : RattleType) (turn : One.Denot → Two.Denot) where
  pub the_places : Alike One Two turn → Alike (whole.the_row One) (whole.the_row Two) ((the_former this).map One.Denot Two.Denot turn)
  the_places alike =
      let field = laid _ _ _ (vec.the_places global.the_row ghosts One Two turn alike) in
      view_places vector (list this) view (λ X Y k u. refl) (λ X u. refl) One.Denot Two.Denot turn (whole.the_row One).coded (whole.the_row Two).coded
      (invariant One.Denot) (invariant Two.Denot) (λ u p q. refl) (λ u p q. refl) (λ u e. tt) (λ u e. tt)
      (over (inside.the_row One)) (over (inside.the_row Two))
      (struct_places (inside.the_type One) (inside.the_type Two) (vec.mapped turn, tt) _ (λ d. refl) refl (field, tt))

  pub the_codes_placed : Recodes One Two turn → Recodes (whole.the_row One) (whole.the_row Two) ((the_former this).map One.Denot Two.Denot turn)
  the_codes_placed recodes elements = sym (code_map One.coded.code Two.coded.code turn (λ x. sym (recodes x)) elements)
