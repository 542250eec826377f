use Rattle.std.proofs.Common.{◌≡◌, ◌∙◌, sym, ℕ, ◌<◌, [], List, All, length, length-set, ap, subst, ◌≤◌}
use Rattle.std.specs.List.{Contains}
use Rattle.std.proofs.lemmas.List.Sorted.{All-permutation, Contains-permutation}
use Rattle.quality_sweep.specs.declared.candidate.Candidate.{Candidate}
use Rattle.quality_sweep.specs.Places.{place_of, places_of}
use Rattle.quality_sweep.specs.Shelves.{ShelvesFields, cleared}
use Rattle.quality_sweep.specs.Sweeping.{IsWaiting, Chooses, Explores, Puts}
use Rattle.quality_sweep.proofs.Exploring.{contains_back}
use Rattle.quality_sweep.proofs.Turning.{chosen-wait, found-fit, turn}
use Rattle.quality_sweep.proofs.above.clear.Goals as goal

pub explore-requires-clause-waits : goal.explore-requires-clause-waits
explore-requires-clause-waits g c κs within =
    let ch : Chooses c.args.outlook.now.g.now c.sort_unstable_by_key.new.self.items c.args.front.now.best c.args.front.now.kept c.choose.new.kept [] c.choose.new.chosen.items =
    subst (λ (l : List Candidate). Chooses c.args.outlook.now.g.now l c.args.front.now.best c.args.front.now.kept c.choose.new.kept [] c.choose.new.chosen.items) c.deref.ensures.value
    (subst (λ (l : List Candidate). Chooses c.args.outlook.now.g.now c.deref.result.now c.args.front.now.best c.args.front.now.kept c.choose.new.kept l c.choose.new.chosen.items) c.new-chosen.ensures.items c.in_ok-choose.ensures)
    in
    let waits : All (IsWaiting c.args.outlook.now.g.now (g.C.Ceiling.allows c.args.outlook.now.ceiling.now) c.args.outlook.now.from.now) c.sort_unstable_by_key.new.self.items =
    All-permutation (IsWaiting c.args.outlook.now.g.now (g.C.Ceiling.allows c.args.outlook.now.ceiling.now) c.args.outlook.now.from.now) c.take-batch.result.items c.sort_unstable_by_key.new.self.items c.sort_unstable_by_key.ensures.permutation
    (subst (λ (l : List Candidate). All (IsWaiting c.args.outlook.now.g.now (g.C.Ceiling.allows c.args.outlook.now.ceiling.now) c.args.outlook.now.from.now) l) (sym c.take-batch.ensures.taken) (c.requires.holds.waits c.args.place))
    in
    subst (λ (l : List Candidate). All (IsWaiting c.args.outlook.now.g.now (g.C.Ceiling.allows c.args.outlook.now.ceiling.now) c.args.outlook.now.from.now) l) (sym c.deref-2.ensures.value)
    (chosen-wait c.args.outlook.now.g.now (g.C.Ceiling.allows c.args.outlook.now.ceiling.now) c.args.outlook.now.from.now c.sort_unstable_by_key.new.self.items c.choose.new.chosen.items c.args.front.now.best c.args.front.now.kept c.choose.new.kept ch waits)

pub put_all-requires : goal.put_all-requires
put_all-requires g c =
    let width : c.take-batch.new.self.width ≡ c.args.front.now.shelves.width = ap (λ (s : ShelvesFields). s.width) c.take-batch.ensures.rest in
    let count : length c.take-batch.new.self.lists ≡ length c.args.front.now.shelves.lists =
    ap (λ (s : ShelvesFields). length s.lists) c.take-batch.ensures.rest ∙ length-set c.args.front.now.shelves.lists c.args.place []
    in
    let low : 1 ≤ c.take-batch.new.self.width = subst (λ (w : ℕ). 1 ≤ w) (sym width) c.requires.holds.width in
    let same : length c.take-batch.new.self.lists ≡ places_of c.take-batch.new.self.width c.args.outlook.now.g.now =
    count ∙ c.requires.holds.count ∙ ap (λ (w : ℕ). places_of w c.args.outlook.now.g.now) (sym width)
    in
    subst (λ (l : List Candidate). All (λ (x : Candidate). place_of c.take-batch.new.self.width x.state < length c.take-batch.new.self.lists) l) (sym c.deref-3.ensures.value)
    (found-fit c.args.outlook.now.g.now (g.C.Ceiling.allows c.args.outlook.now.ceiling.now) c.args.outlook.now.from.now c.take-batch.new.self.width (length c.take-batch.new.self.lists) c.explore.new.found.items low same c.in_ok-front.ensures.waits)

pub returns : goal.returns
returns g c =
    let ch : Chooses c.args.outlook.now.g.now c.sort_unstable_by_key.new.self.items c.args.front.now.best c.args.front.now.kept c.choose.new.kept [] c.choose.new.chosen.items =
    subst (λ (l : List Candidate). Chooses c.args.outlook.now.g.now l c.args.front.now.best c.args.front.now.kept c.choose.new.kept [] c.choose.new.chosen.items) c.deref.ensures.value
    (subst (λ (l : List Candidate). Chooses c.args.outlook.now.g.now c.deref.result.now c.args.front.now.best c.args.front.now.kept c.choose.new.kept l c.choose.new.chosen.items) c.new-chosen.ensures.items c.in_ok-choose.ensures)
    in
    let e : Explores c.args.outlook.now.g.now (g.C.Ceiling.allows c.args.outlook.now.ceiling.now) c.args.outlook.now.from.now c.choose.new.chosen.items c.explore.new.found.items c.args.front.now.best c.in_ok-front.field-0 =
    subst (λ (l : List Candidate). Explores c.args.outlook.now.g.now (g.C.Ceiling.allows c.args.outlook.now.ceiling.now) c.args.outlook.now.from.now l c.explore.new.found.items c.args.front.now.best c.in_ok-front.field-0)
    c.deref-2.ensures.value c.in_ok-front.ensures
    in
    let p : Puts c.explore.new.found.items (cleared c.args.front.now.shelves c.args.place) c.put_all.new.shelves =
    subst (λ (s : ShelvesFields). Puts c.explore.new.found.items s c.put_all.new.shelves) c.take-batch.ensures.rest
    (subst (λ (l : List Candidate). Puts l c.take-batch.new.self c.put_all.new.shelves) c.deref-3.ensures.value c.in_ok-put_all.ensures)
    in
    record {
      holds =
          turn c.args.outlook.now.g.now (g.C.Ceiling.allows c.args.outlook.now.ceiling.now) c.args.outlook.now.from.now c.args.place c.args.front.now.kept c.choose.new.kept c.args.front.now.shelves c.put_all.new.shelves
          c.args.front.now.best c.in_ok-front.field-0 c.sort_unstable_by_key.new.self.items c.choose.new.chosen.items c.explore.new.found.items c.requires.inside c.requires.holds
          (λ x there. Contains-permutation c.take-batch.result.items c.sort_unstable_by_key.new.self.items x c.sort_unstable_by_key.ensures.permutation (subst (λ (l : List Candidate). Contains l x) (sym c.take-batch.ensures.taken) there))
          (λ x there. subst (λ (l : List Candidate). Contains l x) c.take-batch.ensures.taken (contains_back c.take-batch.result.items c.sort_unstable_by_key.new.self.items c.sort_unstable_by_key.ensures.permutation x there))
          ch e p;
      becomes = e.becomes;
      count = p.count ∙ length-set c.args.front.now.shelves.lists c.args.place [];
    }
