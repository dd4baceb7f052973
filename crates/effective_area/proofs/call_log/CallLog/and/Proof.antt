-- The empty struct stands for the calls with one more.
use Rattle.std.proofs.Common.{[], ◌∷◌, ◌++◌, refl}
use Rattle.std.specs.Int.{w128}
use Rattle.std.proofs.raw_atomic.Walks.{proved}
use mir.Syntax.{named}
use mir.Val.{vstruct, vnil}
use types.Kit.{raw, ‵, ◌⊛◌, ◌$◌, ◌∵◌, !, qed, done, keep, move, split, suffices}
use types.Part.{agg}
use types.Run.{enter, no_more, returns}
use types.ByLocal.{alloc_all, pass_all, free_all, look_at, sets}
use denote.Exit.{yes}
use denote.RattleType.{owns}
use denote.Builtin.{u128}
use denote.Plain.{uint_vals, uint_Tells}
use denote.Ref.{shr_vals, shr_Tells}
use denote.Slice.{shr_slice_vals, shr_slice_Tells}
use denote.Shadow.{pure_i}
use denote.Signature.{plain, types_at}
use denote.Triple.Entry.{alive}
use denote.Triple.Walked.{says, Stays, stay_none, stay_none_ref, stay_none_slice, walk_of, ends_at, Goes-none, Goes-none_ref, Goes-none_slice}
use Rattle.geometry.specs.contracts.position.Position as position
use Rattle.effective_area.specs.Calls.{call_at}
use Rattle.effective_area.specs.contracts.call_log.CallLog as log
use Rattle.effective_area.specs.contracts.call_log.CallLog.and as f
use Rattle.effective_area.proofs.call_log.CallLog.and.Statement.{statement}
use Rattle.effective_area.proofs.call_log.CallLog.and.Code as code

abbrev stayed : Stays f.ended.signature.params f.ended.kept
stayed = (stay_none_ref (0 ∷ []) tt (plain (λ _. log.the_row)) yes, (stay_none_slice (1 ∷ []) tt (plain (λ _. position.the_row)) yes, (stay_none (λ _. u128) yes, tt)))

pub and_spec : {M : Type 1} → statement M
and_spec 𝓤 𝓛 𝓜 𝓡 wired =
    let c = f.clauses 𝓛 𝓜.mem 𝓡.returns in
    proved 𝓛 f.ended stayed c 𝓜 𝓡
    (Goes-none_ref 𝓛 2 (0 ∷ []) tt (plain (λ _. log.the_row)) yes, (Goes-none_slice 𝓛 2 (1 ∷ []) tt (plain (λ _. position.the_row)) yes, (Goes-none 𝓛 2 (λ _. u128) yes (λ κs x f. refl), tt)))
    f.Key.name code.function (code.unfolded 𝓤 𝓛.H 𝓜 𝓡 wired)
    (λ κs. (shr_vals, (shr_slice_vals, (uint_vals w128, tt))))
    (λ κs. (shr_Tells (named 0) κs.0 log.the_row, (shr_slice_Tells (named 1) κs.1.0 position.the_row, (uint_Tells w128, tt)))) (λ κs qs bounds a g are.
    let y : (walk_of 𝓛 f.ended stayed c).Ghost = ((κs, qs, bounds, a, (shr_vals a.0, (shr_slice_vals a.1.0, (uint_vals w128 a.1.1.0, tt)))), g) in
    let next : log.the_row.Denot = record { calls = a.0.now.calls ++ call_at a.1.1.0 a.1.0.now ∷ [] } in
    qed 𝓛 ((raw (alive 𝓛 f.signature κs qs) ⊛ ‵ (owns (types_at f.signature.params κs) a y.0.4)) ∷ raw ((c κs a).requires g) ∷ []) ∵
    keep ! (0 ∷ []) $ split ! $ enter ! _ _ _ _ _ $ alloc_all ! (λ l. pass_all ! refl ((tt, tt), ((tt, (tt, (record { fits = are.1.0.0.1.0 }, tt))), ((tt, record { fits = are.1.1.0.1 }), tt))) $
    sets ! (agg ! (no_more !)) refl (tt, tt) $ returns ! (look_at ! 0 refl) $ free_all ! refl $
    suffices ! _ (ends_at 𝓛 f.ended stayed c y (vstruct vnil) next (tt, (tt, (tt, tt))) (tt, (tt, (tt, tt)))) $ says ! refl $
    pure_i ! (log.the_row.own_val next (vstruct vnil ∷ [])) ((λ vss. (tt, tt)), tt) ((tt, (refl, tt)), tt) $
    move ! (1 ∷ 2 ∷ 0 ∷ []) $ done !))
