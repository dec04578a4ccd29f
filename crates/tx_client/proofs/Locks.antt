-- A lock that was met was told of.
use Rattle.std.proofs.Common.{List, [], sym, ap, subst}
use Rattle.std.specs.Prelude.{Contains}
use Rattle.std.proofs.lemmas.List.Elements.{Contains-push}
use Rattle.tx_types.specs.declared.lock.LockInfo.{LockInfo}
use Rattle.tx_core.specs.Histories.{History}
use Rattle.tx_core.specs.Decisions.{infos_in}
use Rattle.tx_core.specs.Laws.{WasToldOf}
use Rattle.tx_client.specs.Facts.{WasMet}

pub met_was_told : (h : History) (info : LockInfo) → WasMet h info → WasToldOf h info
met_was_told h info (asked, was) = record {
  by = was.by;
  among = was.among;
  told = subst (λ (xs : List LockInfo). Contains xs info) (ap infos_in (sym was.told)) (Contains-push [] info);
}
