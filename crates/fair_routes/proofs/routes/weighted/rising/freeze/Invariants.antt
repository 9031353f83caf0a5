use Rattle.fair_routes.proofs.Common.{◌≤◌, take, count_by, is_none, HasFrozen}
use Rattle.fair_routes.proofs.routes.weighted.rising.freeze.Given as goal

abbrev pub invariant-loop-user : goal.invariant-loop-user
invariant-loop-user l = record {
  frozen : HasFrozen (take l.user-index l.users) l.initial.parts l.parts l.share;
  no_more : count_by is_none l.parts ≤ count_by is_none l.initial.parts;
}
