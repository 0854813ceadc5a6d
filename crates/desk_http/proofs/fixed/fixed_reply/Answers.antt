use Rattle.std.proofs.Common.{refl, ◌∙◌}
use Rattle.desk_http.proofs.OnLiterals.{replies_on_literals}
use Rattle.desk_http.proofs.fixed.fixed_reply.Goals as goal

pub returns-then-close : goal.returns-then-close
unfolding replies_on_literals
returns-then-close c = c.as_bytes.ensures.value ∙ rw (c.in-BadHead.is, c.if-close.true) refl

pub returns-else-close : goal.returns-else-close
unfolding replies_on_literals
returns-else-close c = c.as_bytes-else-close.ensures.value ∙ rw (c.in-BadHead.is, c.if-close.false) refl

pub returns-then-close-2 : goal.returns-then-close-2
unfolding replies_on_literals
returns-then-close-2 c = c.as_bytes-then-close-2.ensures.value ∙ rw (c.in-LengthRequired.is, c.if-close-2.true) refl

pub returns-else-close-2 : goal.returns-else-close-2
unfolding replies_on_literals
returns-else-close-2 c = c.as_bytes-else-close-2.ensures.value ∙ rw (c.in-LengthRequired.is, c.if-close-2.false) refl

pub returns-then-close-3 : goal.returns-then-close-3
unfolding replies_on_literals
returns-then-close-3 c = c.as_bytes-then-close-3.ensures.value ∙ rw (c.in-BodyTooLong.is, c.if-close-3.true) refl

pub returns-else-close-3 : goal.returns-else-close-3
unfolding replies_on_literals
returns-else-close-3 c = c.as_bytes-else-close-3.ensures.value ∙ rw (c.in-BodyTooLong.is, c.if-close-3.false) refl

pub returns-then-close-4 : goal.returns-then-close-4
unfolding replies_on_literals
returns-then-close-4 c = c.as_bytes-then-close-4.ensures.value ∙ rw (c.in-HeadTooLong.is, c.if-close-4.true) refl

pub returns-else-close-4 : goal.returns-else-close-4
unfolding replies_on_literals
returns-else-close-4 c = c.as_bytes-else-close-4.ensures.value ∙ rw (c.in-HeadTooLong.is, c.if-close-4.false) refl

pub returns-then-close-5 : goal.returns-then-close-5
unfolding replies_on_literals
returns-then-close-5 c = c.as_bytes-then-close-5.ensures.value ∙ rw (c.in-NoRoute.is, c.if-close-5.true) refl

pub returns-else-close-5 : goal.returns-else-close-5
unfolding replies_on_literals
returns-else-close-5 c = c.as_bytes-else-close-5.ensures.value ∙ rw (c.in-NoRoute.is, c.if-close-5.false) refl

pub returns-then-close-6 : goal.returns-then-close-6
unfolding replies_on_literals
returns-then-close-6 c = c.as_bytes-then-close-6.ensures.value ∙ rw (c.in-WrongMethod-Get.is, (rw c.in-WrongMethod-Get.is at c.in-WrongMethod-Get.allow-is), c.if-close-6.true) refl

pub returns-else-close-6 : goal.returns-else-close-6
unfolding replies_on_literals
returns-else-close-6 c = c.as_bytes-else-close-6.ensures.value ∙ rw (c.in-WrongMethod-Get.is, (rw c.in-WrongMethod-Get.is at c.in-WrongMethod-Get.allow-is), c.if-close-6.false) refl

pub returns-then-close-7 : goal.returns-then-close-7
unfolding replies_on_literals
returns-then-close-7 c = c.as_bytes-then-close-7.ensures.value ∙ rw (c.in-WrongMethod-Post.is, (rw c.in-WrongMethod-Post.is at c.in-WrongMethod-Post.allow-is), c.if-close-7.true) refl

pub returns-else-close-7 : goal.returns-else-close-7
unfolding replies_on_literals
returns-else-close-7 c = c.as_bytes-else-close-7.ensures.value ∙ rw (c.in-WrongMethod-Post.is, (rw c.in-WrongMethod-Post.is at c.in-WrongMethod-Post.allow-is), c.if-close-7.false) refl

pub returns-then-close-8 : goal.returns-then-close-8
unfolding replies_on_literals
returns-then-close-8 c = c.as_bytes-then-close-8.ensures.value ∙ rw (c.in-StoreFault.is, c.if-close-8.true) refl

pub returns-else-close-8 : goal.returns-else-close-8
unfolding replies_on_literals
returns-else-close-8 c = c.as_bytes-else-close-8.ensures.value ∙ rw (c.in-StoreFault.is, c.if-close-8.false) refl

pub returns-then-close-9 : goal.returns-then-close-9
unfolding replies_on_literals
returns-then-close-9 c = c.as_bytes-then-close-9.ensures.value ∙ rw (c.in-Memory.is, c.if-close-9.true) refl

pub returns-else-close-9 : goal.returns-else-close-9
unfolding replies_on_literals
returns-else-close-9 c = c.as_bytes-else-close-9.ensures.value ∙ rw (c.in-Memory.is, c.if-close-9.false) refl
