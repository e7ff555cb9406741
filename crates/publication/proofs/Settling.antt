-- A new state that was sent over links, and then handed over them where it commits, was delivered over them.
use Rattle.std.specs.Prelude.{◌≡◌, ◌≤◌, ◌<◌, ◌+◌, ◌&&◌, ◌||◌, ℕ, Bool, true, false, List, [], ◌∷◌, cond, fold, refl}
use Rattle.std.specs.List.{AllByRecursion, AllZip, list_any}
use Rattle.std.proofs.Common.{sym, ap, ap₂, subst, ◌∙◌, arith}
use Rattle.meta_state.specs.declared.cluster_state.ClusterState.{ClusterState}
use Rattle.meta_state.specs.Voters.{is_majority}
use Rattle.publication.specs.declared.deliveries.Answer.{Answer}
use Rattle.publication.specs.declared.deliveries.Delivery.{Delivery}
use Rattle.publication.specs.Deliveries.{CanTake, IsDelivered, IsDelivery, answer_of, does_commit, link_after}
use Rattle.publication.specs.Fours.{AllFour}
use Rattle.publication.specs.Handings.{CanBeHanded, IsHanded, IsHandedOver, IsSettled, handed_link}
use Rattle.publication.specs.LinkMeanings.{Fails, LinkMeaning}
use Rattle.publication.specs.Threes.{AllThree}
use Rattle.publication.proofs.Threes.{three_by}

-- ---- what was sent can be handed

-- what was sent alone isn't handed yet
not_handed : (prev new : ClusterState) (before after : LinkMeaning) (answer : Answer) → IsDelivered prev new false before after answer
    → (got : Bool) → answer.handed ≡ got → got ≡ false
not_handed prev new before after answer is true e = absurd (cc ((is.committed e).0))
not_handed prev new before after answer is false e = refl

unhanded : (prev new : ClusterState) (before after : LinkMeaning) (answer : Answer) → IsDelivered prev new false before after answer → answer.handed ≡ false
unhanded prev new before after answer is = not_handed prev new before after answer is answer.handed refl

-- a link whose node accepted, before its commit
sent_link : (prev new : ClusterState) (before after : LinkMeaning) (answer : Answer) → IsDelivered prev new false before after answer → answer.accepted ≡ true
    → after ≡ link_after new before true false after.faults
sent_link prev new before after answer is took =
    is.link ∙ ap₂ (λ a h. link_after new before a h after.faults) took (unhanded prev new before after answer is)

can_be_handed : (prev new : ClusterState) (before after : LinkMeaning) (answer : Answer) → CanTake prev new before → IsDelivered prev new false before after answer
    → CanBeHanded new after answer
can_be_handed prev new before after answer can is took =
    let e = sent_link prev new before after answer is took in
    record {
      held = ap (λ l. l.held) e;
      ready = ap (λ l. l.ready) e;
      room = subst (λ n. 0 < n) (sym (ap (λ l. l.room) e)) can.room;
    }

pub can_all_be_handed : (prev new : ClusterState) (before after : List LinkMeaning) (answers : List Answer) → AllByRecursion (CanTake prev new) before
    → AllThree (IsDelivered prev new false) before after answers → AllZip (CanBeHanded new) after answers
can_all_be_handed prev new before after answers can all =
    three_by (IsDelivered prev new false) (λ before after answers. AllByRecursion (CanTake prev new) before → AllZip (CanBeHanded new) after answers)
    (λ can. tt) (λ b a w more_b more_a more_w is each rest can. (can_be_handed prev new b a w can.0 is, rest can.1)) before after answers all can

-- ---- one link

-- a failure of a link that hasn't changed but for its count since
fails_since : (before mid after : LinkMeaning) → before.faults ≤ mid.faults → mid.reliable ≡ before.reliable → Fails mid after → Fails before after
fails_since before mid after rises same fails = record { rose = omega (arith, fails.rose); can = sym same ∙ fails.can }

-- the link as it is after a commit that its node got, or didn't
handed_is_after : (prev new : ClusterState) (before mid : LinkMeaning) (count : ℕ) → mid ≡ link_after new before true false mid.faults → (got : Bool)
    → handed_link mid got count ≡ link_after new before true got count
handed_is_after prev new before mid count e true = ap (λ l. handed_link l true count) e
handed_is_after prev new before mid count e false = ap (λ l. handed_link l false count) e

-- its node accepted
handed_over : (prev new : ClusterState) (before mid after : LinkMeaning) (was is_now : Answer) → IsDelivered prev new false before mid was → was.accepted ≡ true
    → is_now ≡ record was { handed = is_now.handed } → IsHandedOver mid after is_now.handed → IsDelivered prev new true before after is_now
handed_over prev new before mid after was is_now is took rest over =
    let took_now : is_now.accepted ≡ true = ap (λ (a : Answer). a.accepted) rest ∙ took in
    let told : is_now ≡ answer_of prev new before true is_now.handed =
    rest ∙ ap (λ (a : Answer). record a { handed = is_now.handed }) is.told ∙ ap (λ t. answer_of prev new before t is_now.handed) took in
    let link : after ≡ link_after new before true is_now.handed after.faults =
    over.link ∙ handed_is_after prev new before mid after.faults (sent_link prev new before mid was is took) is_now.handed in
    record {
      told = told ∙ ap (λ t. answer_of prev new before t is_now.handed) (sym took_now);
      link = link ∙ ap (λ t. link_after new before t is_now.handed after.faults) (sym took_now);
      faults = omega (arith, is.faults, over.faults);
      outside = λ e. absurd (cc ((is.outside (sym (ap (λ (a : Answer). a.asked) rest) ∙ e)).0));
      missed = λ asked e. absurd cc;
      committed = λ e. (refl, took_now);
      lost = λ commits accepted e. fails_since before mid after is.faults (ap (λ l. l.reliable) is.link) (over.lost e);
    }

-- its node didn't
passed_over : (prev new : ClusterState) (before mid after : LinkMeaning) (was is_now : Answer) → IsDelivered prev new false before mid was → was.accepted ≡ false
    → is_now ≡ record was { handed = is_now.handed } → is_now.handed ≡ false → after ≡ mid → IsDelivered prev new true before after is_now
passed_over prev new before mid after was is_now is took rest got same =
    let same_answer : was ≡ is_now = sym (rest ∙ ap (λ g. record was { handed = g }) (got ∙ sym (unhanded prev new before mid was is))) in
    subst (λ a. IsDelivered prev new true before after a) same_answer (subst (λ l. IsDelivered prev new true before l was) (sym same) (record {
      told = is.told;
      link = is.link;
      faults = is.faults;
      outside = is.outside;
      missed = is.missed;
      committed = λ e. (refl, (is.committed e).1);
      lost = λ commits accepted e. absurd cc;
    }))

delivered_at : (prev new : ClusterState) (before mid after : LinkMeaning) (was is_now : Answer) → IsDelivered prev new false before mid was → IsHanded mid after was is_now
    → (took : Bool) → was.accepted ≡ took → IsDelivered prev new true before after is_now
delivered_at prev new before mid after was is_now is hand true took = handed_over prev new before mid after was is_now is took hand.rest (hand.over took)
delivered_at prev new before mid after was is_now is hand false took =
    passed_over prev new before mid after was is_now is took hand.rest (hand.passed took).0 (hand.passed took).1

-- ---- all links

all_delivered : (prev new : ClusterState) (before mid after : List LinkMeaning) (was is_now : List Answer) → AllThree (IsDelivered prev new false) before mid was
    → AllFour IsHanded mid after was is_now → AllThree (IsDelivered prev new true) before after is_now
all_delivered prev new [] [] [] [] [] sent hands = tt
all_delivered prev new (b ∷ before) (m ∷ mid) (a ∷ after) (w ∷ was) (n ∷ is_now) sent hands =
    (delivered_at prev new b m a w n sent.0 hands.0 w.accepted refl, all_delivered prev new before mid after was is_now sent.1 hands.1)
all_delivered prev new [] [] [] [] (n ∷ is_now) sent hands = absurd hands
all_delivered prev new [] [] (a ∷ after) [] is_now sent hands = absurd hands
all_delivered prev new [] [] after (w ∷ was) is_now sent hands = absurd sent
all_delivered prev new [] (m ∷ mid) after was is_now sent hands = absurd sent
all_delivered prev new (b ∷ before) [] after was is_now sent hands = absurd sent
all_delivered prev new (b ∷ before) (m ∷ mid) after [] is_now sent hands = absurd sent
all_delivered prev new (b ∷ before) (m ∷ mid) [] (w ∷ was) is_now sent hands = absurd hands
all_delivered prev new (b ∷ before) (m ∷ mid) (a ∷ after) (w ∷ was) [] sent hands = absurd hands

-- what is read off an answer, but whether it was handed, is the same after a commit
any_same : (f : Answer → Bool) → ((a : Answer) (got : Bool) → f (record a { handed = got }) ≡ f a) → (mid after : List LinkMeaning) (was is_now : List Answer)
    → AllFour IsHanded mid after was is_now → list_any f is_now ≡ list_any f was
any_same f same [] [] [] [] hands = refl
any_same f same (m ∷ mid) (a ∷ after) (w ∷ was) (n ∷ is_now) hands =
    ap₂ (λ x y. x || y) (ap f hands.0.rest ∙ same w n.handed) (any_same f same mid after was is_now hands.1)
any_same f same [] [] [] (n ∷ is_now) hands = absurd hands
any_same f same [] [] (w ∷ was) is_now hands = absurd hands
any_same f same [] (a ∷ after) was is_now hands = absurd hands
any_same f same (m ∷ mid) [] was is_now hands = absurd hands
any_same f same (m ∷ mid) (a ∷ after) [] is_now hands = absurd hands
any_same f same (m ∷ mid) (a ∷ after) (w ∷ was) [] hands = absurd hands

count_same : (f : Answer → Bool) → ((a : Answer) (got : Bool) → f (record a { handed = got }) ≡ f a) → (sum : ℕ) (mid after : List LinkMeaning) (was is_now : List Answer)
    → AllFour IsHanded mid after was is_now → fold (λ n a. n + cond (f a) 1 0) sum is_now ≡ fold (λ n a. n + cond (f a) 1 0) sum was
count_same f same sum [] [] [] [] hands = refl
count_same f same sum (m ∷ mid) (a ∷ after) (w ∷ was) (n ∷ is_now) hands =
    ap (λ b. fold (λ n a. n + cond (f a) 1 0) (sum + cond b 1 0) is_now) (ap f hands.0.rest ∙ same w n.handed)
    ∙ count_same f same (sum + cond (f w) 1 0) mid after was is_now hands.1
count_same f same sum [] [] [] (n ∷ is_now) hands = absurd hands
count_same f same sum [] [] (w ∷ was) is_now hands = absurd hands
count_same f same sum [] (a ∷ after) was is_now hands = absurd hands
count_same f same sum (m ∷ mid) [] was is_now hands = absurd hands
count_same f same sum (m ∷ mid) (a ∷ after) [] is_now hands = absurd hands
count_same f same sum (m ∷ mid) (a ∷ after) (w ∷ was) [] hands = absurd hands

commits_same : (new : ClusterState) (mid after : List LinkMeaning) (was is_now : List Answer) → AllFour IsHanded mid after was is_now
    → does_commit new is_now ≡ does_commit new was
commits_same new mid after was is_now hands =
    ap₂ (λ x n. x && is_majority new.nodes n) (any_same (λ a. a.leads) (λ a got. refl) mid after was is_now hands)
    (count_same (λ a. a.votes) (λ a got. refl) 0 mid after was is_now hands)

settled_at : (prev new : ClusterState) (before mid after : List LinkMeaning) (was : List Answer) (delivery : Delivery) → AllThree (IsDelivered prev new false) before mid was
    → IsSettled new mid after was delivery → (commits : Bool) → delivery.commits ≡ commits → IsDelivery prev new before after delivery
settled_at prev new before mid after was delivery sent is true e = record {
  commits = is.commits ∙ sym (commits_same new mid after was delivery.answers (is.handed e));
  each = subst (λ c. AllThree (IsDelivered prev new c) before after delivery.answers) (sym e)
      (all_delivered prev new before mid after was delivery.answers sent (is.handed e));
}
settled_at prev new before mid after was delivery sent is false e = record {
  commits = is.commits ∙ ap (does_commit new) (sym (is.kept e).1);
  each = subst (λ c. AllThree (IsDelivered prev new c) before after delivery.answers) (sym e)
      (subst (λ answers. AllThree (IsDelivered prev new false) before after answers) (sym (is.kept e).1)
      (subst (λ links. AllThree (IsDelivered prev new false) before links was) (sym (is.kept e).0) sent));
}

pub delivery_settled : (prev new : ClusterState) (before mid after : List LinkMeaning) (was : List Answer) (delivery : Delivery)
    → AllThree (IsDelivered prev new false) before mid was → IsSettled new mid after was delivery → IsDelivery prev new before after delivery
delivery_settled prev new before mid after was delivery sent is = settled_at prev new before mid after was delivery sent is delivery.commits refl
