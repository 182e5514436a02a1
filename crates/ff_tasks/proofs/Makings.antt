-- Workers that are made one after another.
use Rattle.std.proofs.Common.{◌≡◌, ◌≤◌, false, List, [], ◌∷◌, ◌++◌, length, map, sym, ap, ap₂, ◌∙◌, subst, arith}
use Rattle.std.proofs.lemmas.List.{length-map, map-append}
use Rattle.std.proofs.lemmas.List.Elements.{All-push}
use Rattle.std.specs.List.{All, AllByRecursion}
use Rattle.ff_tasks.specs.Crews.{IsFreshSeat, IsManned, handlers_of}
use Rattle.ff_tasks.specs.Jobs.{JobState}
use Rattle.ff_tasks.specs.Seats.{SeatState, AreOpen, links}

AllByRecursion-push : {X : Type 0} (P : X → Type 0) (xs : List X) (x : X) → AllByRecursion P xs → P x → AllByRecursion P (xs ++ x ∷ [])
AllByRecursion-push P [] x all here = (here, tt)
AllByRecursion-push P (y ∷ ys) x all here = (all.0, AllByRecursion-push P ys x all.1 here)

-- the workers so far, with the handlers that they were made of
pub record AreMade {T A H : Type 0} (ss : List (SeatState T A)) (jobs : List (JobState T A H)) (handlers : List H) : Type 0 where
  pub handlers_are : handlers_of jobs ≡ handlers
  pub links : links ss ≡ map (λ job. job.link) jobs
  pub begin : All (λ job. job.ended ≡ false) jobs
  pub untold : AreOpen ss
  pub fresh : All (λ s. IsFreshSeat s) ss

-- one more
pub AreMade-more : {T A H : Type 0} (ss ss' : List (SeatState T A)) (jobs jobs' : List (JobState T A H)) (handlers : List H) (s : SeatState T A) (job : JobState T A H) (h : H)
    → AreMade ss jobs handlers → ss' ≡ ss ++ s ∷ [] → jobs' ≡ jobs ++ job ∷ [] → job.handler ≡ h → s.link ≡ job.link → s.told ≡ false → IsFreshSeat s → job.ended ≡ false
    → AreMade ss' jobs' (handlers ++ h ∷ [])
AreMade-more ss ss' jobs jobs' handlers s job h made more more' handler link told fresh begin = record {
  handlers_are = ap handlers_of more' ∙ map-append (λ job. job.handler) jobs (job ∷ []) ∙ ap₂ (λ hs h. hs ++ h ∷ []) made.handlers_are handler;
  links = ap links more ∙ map-append (λ s. s.link) ss (s ∷ []) ∙ ap₂ (λ ls l. ls ++ l ∷ []) made.links link
      ∙ sym (ap (map (λ job. job.link)) more' ∙ map-append (λ job. job.link) jobs (job ∷ []));
  begin = subst (λ js. All (λ job. job.ended ≡ false) js) (sym more') (All-push (λ job. job.ended ≡ false) jobs job made.begin begin);
  untold = subst (λ l. AreOpen l) (sym more) (AllByRecursion-push (λ s. s.told ≡ false) ss s made.untold told);
  fresh = subst (λ l. All (λ s. IsFreshSeat s) l) (sym more) (All-push (λ s. IsFreshSeat s) ss s made.fresh fresh);
}

pub IsManned-made : {T A H : Type 0} (ss : List (SeatState T A)) (jobs : List (JobState T A H)) (handlers : List H) → AreMade ss jobs handlers → length handlers ≤ 64
    → IsManned ss jobs
IsManned-made ss jobs handlers made few = record {
  links = made.links;
  begin = made.begin;
  few = omega (
    arith,
    few,
    length-map ss (λ s. s.link),
    length-map jobs (λ job. job.link),
    length-map jobs (λ job. job.handler),
    ap length made.links,
    ap length made.handlers_are,
  );
  untold = made.untold;
}
