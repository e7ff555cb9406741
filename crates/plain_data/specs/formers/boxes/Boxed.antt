-- How a `Boxed` holds its one value, so that a type may hold boxes of its own values.
-- The prover asks for these names of every container through which a type leads back to itself.
use mathlib.Core.Former.{Former, this, const, pair, via}
use mathlib.Core.Path.{refl}
use base.Fml.{ftrue}
use base.Stored.{gnil}
use denote.Hole.Fix.{over}
use denote.HoleLaws.{Alike}
use denote.HolePlaces.{Recodes, laid, one_value, struct_places}
use denote.Memory.{part_of}
use denote.Model.Placed.{view_places}
use denote.Param.Weighed.{Weighed}
use denote.RattleType.{RattleType}
use denote.RawPtr.{Ptr}
use denote.Sharing.{nothing}
use Rattle.std.specs.contracts.alloc.Global as global
use Rattle.std.specs.contracts.boxed.Box as block
use Rattle.std.specs.contracts.impls.GlobalAllocator.TheImpl.{ghosts}
use Rattle.std.specs.declared.alloc.Global.{Global}
use Rattle.std.specs.declared.boxed.Box.{Box}
use Rattle.plain_data.specs.contracts.boxes.Boxed as whole
use Rattle.plain_data.specs.contracts.boxes.Boxed.TheInside as inside
use Rattle.plain_data.specs.declared.boxes.Boxed.TheInside.{Inside}
use Rattle.plain_data.specs.declared.boxes.Boxed.TheView.{view, invariant}

-- a box is seen as what it holds, and weighs the same
abbrev pub the_former : Former {0} → Former {0}
the_former held = held

abbrev pub the_weighed : {held : Former {0}} → Weighed held → Weighed (the_former held)
the_weighed weight = weight

-- its one field is a block of memory: where it lies, whose it is, and what it holds
abbrev kept : Former {0}
kept = via (pair (const (Ptr × Global)) this) Inside (λ X a. ((a.inner.ptr, a.inner.alloc), a.inner.value))
    (λ X v. record { inner = record { ptr = v.0.0; alloc = v.0.1; value = v.1 } }) (λ X a. refl) (λ X v. refl)

abbrev holding : {X Y : Type 0} → Box X Global → Y → Box Y Global
holding b y = record { ptr = b.ptr; alloc = b.alloc; value = y }

abbrev block_of : RattleType → RattleType
block_of One = block.the_row One global.the_row ghosts

module _ (One Two : RattleType) (turn : One.Denot → Two.Denot) where
  blocks : Alike One Two turn → Alike (block_of One) (block_of Two) (λ b. holding b (turn b.value))
  unfolding part_of
  blocks alike = record {
    mir_same = λ i. (block_of (one_value One (alike.mir_same i) (λ _. ftrue) (λ _ _. nothing) gnil)).mir;
    own_same = λ b i. (block_of (one_value One (alike.mir_same i) (alike.own_same b.value i) (alike.shr_same b.value i) gnil)).own_val (holding b tt);
    shr_same = λ b i. (block_of (one_value One (alike.mir_same i) (alike.own_same b.value i) (alike.shr_same b.value i) gnil)).shr_at (holding b tt);
  }

  pub the_places : Alike One Two turn → Alike (whole.the_row One) (whole.the_row Two) ((the_former this).map One.Denot Two.Denot turn)
  the_places alike =
      let field = laid _ _ _ (blocks alike) in
      view_places kept this view (λ X Y k u. refl) (λ X u. refl) One.Denot Two.Denot turn (whole.the_row One).coded (whole.the_row Two).coded
      (invariant One.Denot) (invariant Two.Denot) (λ u p q. refl) (λ u p q. refl) (λ u e. tt) (λ u e. tt)
      (over (inside.the_row One)) (over (inside.the_row Two))
      (struct_places (inside.the_type One) (inside.the_type Two) ((λ b. holding b (turn b.value)), tt) _ (λ d. refl) refl (field, tt))

  pub the_codes_placed : Recodes One Two turn → Recodes (whole.the_row One) (whole.the_row Two) ((the_former this).map One.Denot Two.Denot turn)
  the_codes_placed recodes value = recodes value
