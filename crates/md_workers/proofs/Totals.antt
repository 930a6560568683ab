-- The shares of actors, and that they may run.
use Rattle.std.proofs.Common.{◌≡◌, ℕ, zero, suc, ◌+◌, ◌*◌, ◌<◌, ◌≤◌, List, [], ◌∷◌, ◌++◌, length, All, refl, sym, ◌∙◌, ap, subst, arith, append_assoc}
use Rattle.std.specs.Prelude.{map, Option, None, Some, ◌-◌}
use Rattle.std.specs.Prelude.{Result, Ok, Err, IfOk}
use Rattle.std.specs.Option.{option_to_list}
use Rattle.std.specs.Fork.{GivesJobs}
use Rattle.std.specs.Fn.{FnReturns}
use denote.Param.Members.{Shared}
use Rattle.std.specs.List.{AllByRecursion, filter_map, cons_option}
use Rattle.std.proofs.lemmas.List.Elements.{All-nil, All-cons, All-head, All-tail}
use Rattle.atomic_table.specs.Seated.{TableId}
use Rattle.md_turn.specs.Passes.{Known}
use Rattle.md_turn.specs.Journal.{total_of}
use Rattle.md_pool.specs.Claims as claims
use Rattle.md_pool.specs.Claims.{Drawer, Pool}
use Rattle.md_merge.specs.Jobs.{Job}
use Rattle.md_workers.specs.declared.actor.Actor.{Actor}
use Rattle.md_workers.specs.declared.actor.Client.{Client}
use Rattle.md_workers.specs.declared.actor.Ended.{Ended}
use Rattle.md_workers.specs.declared.actor.Role.{Role}
use Rattle.md_workers.specs.declared.actor.Role.TheVariants as role
use Rattle.md_workers.specs.Actors.{IsOfClaims, HasRoom, KeepsSeat, MayRun}
use Rattle.md_workers.specs.Teams.{actor_share, fresh_pass, fresh_seat, workers_of, roles_of, AreFresh, HasShared, HasSharedSeat, InPairs, AreRun}

pub shared_twice : (n m : ℕ) (a b c : Known) → HasShared n a b → HasShared m b c → HasShared (n + m) a c
shared_twice n m a b c h k = (k.0 ∙ ap (λ (p : Known). record p { share = c.share }) h.0, (let x = h.1 in let y = k.1 in omega arith))

-- a pass whose share fell gives the same new passes
pub fresh_still : (n : ℕ) (a b : Known) (actors : List Actor) → HasShared n a b → AreFresh b actors → AreFresh a actors
fresh_still n a b actors h fresh = subst (λ (p : Known). AllByRecursion (λ (x : Actor). x.pass ≡ p) actors) (ap fresh_pass h.0) fresh

pub fresh_also : (n : ℕ) (a b : Known) (actors : List Actor) → HasShared n a b → AreFresh a actors → AreFresh b actors
fresh_also n a b actors h fresh = subst (λ (p : Known). AllByRecursion (λ (x : Actor). x.pass ≡ p) actors) (sym (ap fresh_pass h.0)) fresh

-- the passes that come back are of the lock
pub ids_are : (id : TableId) (jobs : List Job) (drawn : Known) (actors : List Actor) (ended : List Ended) → drawn.id ≡ id → AreFresh drawn actors → AreRun jobs actors ended
    → All (λ (p : Known). p.id ≡ id) (map (λ (e : Ended). e.pass) ended)
ids_are id jobs drawn [] [] is fresh run = All-nil (λ (p : Known). p.id ≡ id)
ids_are id jobs drawn [] (e ∷ ended) is fresh run = absurd run
ids_are id jobs drawn (a ∷ actors) [] is fresh run = absurd run
ids_are id jobs drawn (a ∷ actors) (e ∷ ended) is fresh run =
    All-cons (λ (p : Known). p.id ≡ id) e.pass (map (λ (x : Ended). x.pass) ended)
    (run.0.pass.0 ∙ ap (λ (p : Known). p.id) fresh.0 ∙ is)
    (ids_are id jobs drawn actors ended is fresh.1 run.1)

-- and have the shares that moved
pub shares_are : (jobs : List Job) (drawn : Known) (actors : List Actor) (ended : List Ended) → AreFresh drawn actors → AreRun jobs actors ended
    → total_of (λ (p : Known). p.share) (map (λ (e : Ended). e.pass) ended) ≡ length actors * actor_share
shares_are jobs drawn [] [] fresh run = refl
shares_are jobs drawn [] (e ∷ ended) fresh run = absurd run
shares_are jobs drawn (a ∷ actors) [] fresh run = absurd run
shares_are jobs drawn (a ∷ actors) (e ∷ ended) fresh run =
    let own : e.pass.share ≡ actor_share = run.0.pass.1 ∙ ap (λ (p : Known). p.share) fresh.0 in
    let rest = shares_are jobs drawn actors ended fresh.1 run.1 in
    omega arith

-- what comes back of a seat, by its actor's role
abbrev Back : Role → Ended → Type 0
Back role e = KeepsSeat role e.seat

back : (jobs : List Job) (actors : List Actor) (ended : List Ended) → AreRun jobs actors ended → InPairs Back (map (λ (a : Actor). a.role) actors) ended
back jobs [] [] run = tt
back jobs [] (e ∷ ended) run = run
back jobs (a ∷ actors) [] run = run
back jobs (a ∷ actors) (e ∷ ended) run = (run.0.seat, back jobs actors ended run.1)

-- the seats that come back are of the claims, with the shares that moved
pub record SeatsAreBack (id : TableId) (w : ℕ) (seats : List Drawer) : Type 0 where
  pub ids : All (λ (s : Drawer). s.id ≡ id) seats
  pub shares : claims.total_of (λ (s : Drawer). s.share) seats ≡ w * actor_share

workers_back : (pool : Pool) (w : ℕ) (ended : List Ended) → InPairs Back (workers_of (fresh_seat pool) w) ended → SeatsAreBack pool.id w (filter_map (λ (e : Ended). e.seat) ended)
workers_back pool zero [] h = record { ids = All-nil (λ (s : Drawer). s.id ≡ pool.id); shares = refl }
workers_back pool zero (e ∷ ended) h = absurd h
workers_back pool (suc w) [] h = absurd h
workers_back pool (suc w) (e ∷ ended) h =
    let rest = workers_back pool w ended h.1 in
    let s = h.0.0 in
    let share : s.share ≡ actor_share = h.0.2.1 in
    let more = rest.shares in
    subst (λ (o : Option Drawer). SeatsAreBack pool.id (suc w) (cons_option o (filter_map (λ (x : Ended). x.seat) ended))) (sym h.0.1)
    (record {
      ids = All-cons (λ (d : Drawer). d.id ≡ pool.id) s (filter_map (λ (x : Ended). x.seat) ended) h.0.2.0 rest.ids;
      shares = omega arith;
    })

clients_back : (pool : Pool) (clients : List Client) (w : ℕ) (ended : List Ended) → InPairs Back (roles_of pool clients w) ended → SeatsAreBack pool.id w (filter_map (λ (e : Ended). e.seat) ended)
clients_back pool [] w ended h = workers_back pool w ended h
clients_back pool (c ∷ clients) w [] h = absurd h
clients_back pool (c ∷ clients) w (e ∷ ended) h =
    subst (λ (o : Option Drawer). SeatsAreBack pool.id w (cons_option o (filter_map (λ (x : Ended). x.seat) ended))) (sym h.0) (clients_back pool clients w ended h.1)

pub seats_back : (pool : Pool) (jobs : List Job) (clients : List Client) (w : ℕ) (actors : List Actor) (ended : List Ended) → map (λ (a : Actor). a.role) actors ≡ roles_of pool clients w → AreRun jobs actors ended
    → SeatsAreBack pool.id w (filter_map (λ (e : Ended). e.seat) ended)
seats_back pool jobs clients w actors ended roles run = clients_back pool clients w ended (subst (λ (rs : List Role). InPairs Back rs ended) roles (back jobs actors ended run))

-- what a role needs of a new pass
abbrev Fits : Pool → List Job → Known → Role → Type 0
Fits pool jobs drawn r = IsOfClaims pool r × HasRoom jobs (fresh_pass drawn) r

workers_fit : (pool : Pool) (jobs : List Job) (drawn : Known) (w : ℕ) → length jobs < actor_share → AllByRecursion (Fits pool jobs drawn) (workers_of (fresh_seat pool) w)
workers_fit pool jobs drawn zero few = tt
workers_fit pool jobs drawn (suc w) few = ((refl, (omega arith, few, refl)), workers_fit pool jobs drawn w few)

roles_fit : (pool : Pool) (jobs : List Job) (drawn : Known) (clients : List Client) (w : ℕ) → length jobs < actor_share → All (λ (c : Client). length c.events ≤ actor_share) clients
    → AllByRecursion (Fits pool jobs drawn) (roles_of pool clients w)
roles_fit pool jobs drawn [] w few each = workers_fit pool jobs drawn w few
roles_fit pool jobs drawn (c ∷ clients) w few each =
    let own = All-head (λ (d : Client). length d.events ≤ actor_share) c clients each in
    ((tt, omega arith), roles_fit pool jobs drawn clients w few (All-tail (λ (d : Client). length d.events ≤ actor_share) c clients each))

fit_runs : (id : TableId) (pool : Pool) (jobs : List Job) (drawn : Known) (actors : List Actor) → drawn.id ≡ id → AreFresh drawn actors → AllByRecursion (Fits pool jobs drawn) (map (λ (a : Actor). a.role) actors)
    → All (MayRun id pool jobs) actors
fit_runs id pool jobs drawn [] is fresh fit = All-nil (MayRun id pool jobs)
fit_runs id pool jobs drawn (a ∷ actors) is fresh fit =
    All-cons (MayRun id pool jobs) a actors
    (record {
      pass = ap (λ (p : Known). p.id) fresh.0 ∙ is;
      seat = fit.0.0;
      room = subst (λ (p : Known). HasRoom jobs p a.role) (sym fresh.0) fit.0.1;
    })
    (fit_runs id pool jobs drawn actors is fresh.1 fit.1)

-- The actors may run.
pub may_run : (id : TableId) (pool : Pool) (jobs : List Job) (drawn : Known) (clients : List Client) (w : ℕ) (actors : List Actor) → length jobs < actor_share → drawn.id ≡ id → AreFresh drawn actors
    → map (λ (a : Actor). a.role) actors ≡ roles_of pool clients w → All (λ (c : Client). length c.events ≤ actor_share) clients → All (MayRun id pool jobs) actors
may_run id pool jobs drawn clients w actors few is fresh roles each =
    fit_runs id pool jobs drawn actors is fresh (subst (AllByRecursion (Fits pool jobs drawn)) (sym roles) (roles_fit pool jobs drawn clients w few each))

-- one worker more
workers_next : (seat : Drawer) (n : ℕ) → workers_of seat (suc n) ≡ workers_of seat n ++ role.Worker seat ∷ []
workers_next seat zero = refl
workers_next seat (suc n) = ap (λ (rs : List Role). role.Worker seat ∷ rs) (workers_next seat n)

workers_more : (seat : Drawer) (n : ℕ) → workers_of seat (n + 1) ≡ workers_of seat n ++ role.Worker seat ∷ []
workers_more seat n = let next : n + 1 ≡ suc n = omega arith in ap (workers_of seat) next ∙ workers_next seat n

-- a new pass more
pub fresh_more : (first : Known) (actors : List Actor) (a : Actor) → AreFresh first actors → a.pass ≡ fresh_pass first → AreFresh first (actors ++ a ∷ [])
fresh_more first [] a h is = (is, tt)
fresh_more first (x ∷ actors) a h is = (h.0, fresh_more first actors a h.1 is)

pub shared_one : (a b : Known) → b ≡ record a { share = a.share - actor_share } → actor_share ≤ a.share → HasShared 1 a b
shared_one a b is room =
    let share : b.share ≡ a.share - actor_share = ap (λ (p : Known). p.share) is in
    (is ∙ ap (λ (n : ℕ). record a { share = n }) (sym share), omega arith)

pub seat_shared_more : (n : ℕ) (a b c : Drawer) → HasSharedSeat n a b → c ≡ record b { share = b.share - actor_share } → actor_share ≤ b.share → HasSharedSeat (n + 1) a c
seat_shared_more n a b c h is room =
    let share : c.share ≡ b.share - actor_share = ap (λ (d : Drawer). d.share) is in
    let own : c ≡ record b { share = c.share } = is ∙ ap (λ (m : ℕ). record b { share = m }) (sym share) in
    (own ∙ ap (λ (d : Drawer). record d { share = c.share }) h.0, (let x = h.1 in omega arith))

pub roles_more : (before actors new : List Actor) (a : Actor) (seat : Drawer) (n : ℕ) → new ≡ actors ++ a ∷ [] → a.role ≡ role.Worker seat
    → map (λ (x : Actor). x.role) actors ≡ map (λ (x : Actor). x.role) before ++ workers_of seat n
    → map (λ (x : Actor). x.role) new ≡ map (λ (x : Actor). x.role) before ++ workers_of seat (n + 1)
roles_more before actors new a seat n is own h =
    ap (λ (xs : List Actor). map (λ (x : Actor). x.role) xs) is ∙ both actors
    ∙ ap (λ (rs : List Role). rs ++ a.role ∷ []) h
    ∙ append_assoc (map (λ (x : Actor). x.role) before) (workers_of seat n) (a.role ∷ [])
    ∙ ap (λ (r : Role). map (λ (x : Actor). x.role) before ++ (workers_of seat n ++ r ∷ [])) own
    ∙ ap (λ (rs : List Role). map (λ (x : Actor). x.role) before ++ rs) (sym (workers_more seat n))
  where
    both : (xs : List Actor) → map (λ (x : Actor). x.role) (xs ++ a ∷ []) ≡ map (λ (x : Actor). x.role) xs ++ a.role ∷ []
    both [] = refl
    both (x ∷ xs) = ap (λ (rs : List Role). x.role ∷ rs) (both xs)

module _ {A B : Type 0} where
  pub kept_more : (f : A → B) (held new new' : List B) (xs : List A) (x : A) → new ≡ held ++ map f xs → new' ≡ new ++ f x ∷ [] → new' ≡ held ++ map f (xs ++ x ∷ [])
  kept_more f held new new' xs x h is =
      is ∙ ap (λ (ys : List B). ys ++ f x ∷ []) h ∙ append_assoc held (map f xs) (f x ∷ []) ∙ ap (λ (ys : List B). held ++ ys) (sym (both xs))
    where
      both : (ys : List A) → map f (ys ++ x ∷ []) ≡ map f ys ++ f x ∷ []
      both [] = refl
      both (y ∷ ys) = ap (λ (zs : List B). f y ∷ zs) (both ys)

  pub some_more : (f : A → Option B) (held new new' : List B) (xs : List A) (x : A) → new ≡ held ++ filter_map f xs → new' ≡ new ++ option_to_list (f x) → new' ≡ held ++ filter_map f (xs ++ x ∷ [])
  some_more f held new new' xs x h is =
      is ∙ ap (λ (ys : List B). ys ++ option_to_list (f x)) h ∙ append_assoc held (filter_map f xs) (option_to_list (f x)) ∙ ap (λ (ys : List B). held ++ ys) (sym (both xs))
    where
      one : (o : Option B) → cons_option o [] ≡ option_to_list o
      one None = refl
      one (Some b) = refl

      put : (o : Option B) (ys zs : List B) → cons_option o (ys ++ zs) ≡ cons_option o ys ++ zs
      put None ys zs = refl
      put (Some b) ys zs = refl

      both : (ys : List A) → filter_map f (ys ++ x ∷ []) ≡ filter_map f ys ++ option_to_list (f x)
      both [] = one (f x)
      both (y ∷ ys) = ap (cons_option (f y)) (both ys) ∙ put (f y) (filter_map f ys) (option_to_list (f x))

-- what calls in threads give, in pairs with their jobs
module _ {F J R : Type 0} (g : Shared F (J × Unit {0}) R) (f : F) (P : J → R → Type 0) (says : (x : J) (r : R) → FnReturns g f (x, tt) r → P x r) where
  pub gives_pairs : (js : List J) (rs : List R) → length rs ≡ length js → GivesJobs g f js rs → InPairs P js rs
  gives_pairs [] [] len h = tt
  gives_pairs [] (r ∷ rs) len h = absurd (omega arith)
  gives_pairs (j ∷ js) [] len h = absurd (omega arith)
  gives_pairs (j ∷ js) (r ∷ rs) len h =
      let first = (h 0 r (omega arith)).1 in
      let is : j ≡ first.job = first.job_is first.job in
      (subst (λ x. P x r) (sym is) (says first.job r first.call), gives_pairs js rs (omega arith) next)
    where
      next : GivesJobs g f js rs
      next i d below =
          let t = (h (suc i) d (omega arith)).1 in
          (refl, record { job = t.job; job_read = t.job_read; job_is = t.job_is; call = t.call })

pub ok_both : {V E : Type 0} (r : Result V E) (P Q S : V → Type 0) → ((v : V) → P v → Q v → S v) → IfOk r P → IfOk r Q → IfOk r S
ok_both (Ok v) P Q S h p q = h v p q
ok_both (Err e) P Q S h p q = tt
