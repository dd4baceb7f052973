-- How a list of a recursive type's own values lies in an `Items`: the values are those of its `Vec`, in order.
use mathlib.Core.Path.{◌≡◌, refl, sym}
use mathlib.Core.List.{List, []}
use mathlib.Core.Former.{Former, this, list, via, children}
use base.Stored.{code_map}
use denote.RattleType.{RattleType}
use denote.Hole.Carrier.{listed, list-listed}
use denote.Hole.Fix.{over}
use denote.HoleLaws.{Alike}
use denote.HolePlaces.{Recodes, struct_places, laid}
use denote.Model.Placed.{view_places}
use denote.Param.Weighed.{Weighed, w_list}
use Rattle.std.specs.declared.alloc.Global.{Global}
use Rattle.std.specs.contracts.alloc.Global as global
use Rattle.std.specs.contracts.impls.GlobalAllocator.TheImpl.{ghosts}
use Rattle.std.specs.formers.vec.Vec as held
use Rattle.owned_values.specs.declared.items.Items.TheInside.{Inside}
use Rattle.owned_values.specs.declared.items.Items.TheView.{view, invariant}
use Rattle.owned_values.specs.contracts.items.Items as model
use Rattle.owned_values.specs.contracts.items.Items.TheInside as inside

-- a contract sees the list
abbrev pub the_former : Former {0} → Former {0}
the_former inner = list inner

-- the struct's one field
abbrev stored : Former {0}
stored = via (held.the_former this Global) Inside (λ X fields. fields.items) (λ X vec. record { items = vec }) (λ X fields. refl) (λ X vec. refl)

abbrev pub the_weighed : {inner : Former {0}} → Weighed inner → Weighed (the_former inner)
the_weighed weight = w_list weight

pub the_empty : List ⊥
the_empty = []

abbrev pub the_items : (X : Type 0) → List X → List X
the_items X values = values

pub the_items_listed : (X : Type 0) (values : List X) → listed _ (children (the_former this) X values) ≡ the_items X values
the_items_listed X values = list-listed X values

module _ (One Two : RattleType) (along : One.Denot → Two.Denot) where
  pub the_places : Alike One Two along → Alike (model.the_row One) (model.the_row Two) ((the_former this).map One.Denot Two.Denot along)
  the_places alike =
      view_places stored (list this) view (λ X Y f fields. refl) (λ X fields. refl) One.Denot Two.Denot along
      (model.the_row One).coded (model.the_row Two).coded (invariant One.Denot) (invariant Two.Denot)
      (λ fields p q. refl) (λ fields p q. refl) (λ fields kept. tt) (λ fields kept. tt)
      (over (inside.the_row One)) (over (inside.the_row Two))
      (struct_places (inside.the_type One) (inside.the_type Two) (held.mapped along, tt) _ (λ list. refl) refl
      (laid _ _ _ (held.the_places global.the_row ghosts One Two along alike), tt))

  pub the_codes_placed : Recodes One Two along → Recodes (model.the_row One) (model.the_row Two) ((the_former this).map One.Denot Two.Denot along)
  the_codes_placed same values = sym (code_map One.coded.code Two.coded.code along (λ value. sym (same value)) values)
