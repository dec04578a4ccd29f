use Rattle.std.proofs.Common.{◌≡◌, length, ap, subst, arith}
use Rattle.tx_core.specs.Worlds.{Holds}
use Rattle.tx_embed.proofs.sole_region.SoleRegion.take.Goals as goal

-- the one region holds what any holds
pub take-requires : goal.take-requires
take-requires g c =
    let none : length g.J.JournalId.bounds ≡ 0 = ap length c.args.self.now.sole in
    let first : c.requires.0 ≡ c.args.self.now.region.seat =
    omega (arith, none, c.requires.1, c.args.self.now.first) in
    record { holds = subst (λ n. Holds g.J.JournalId.bounds n c.args.request.body) first c.requires.2 }
