use native.Mathlib.Omega.{arith}
use mathlib.Core.Path.{refl}
use Rattle.frames.specs.declared.Frame.TheVariants.{Data, Reply}
use Rattle.frames.proofs.Laws.Values.{data-fits, reply-fits}
use Rattle.cframes.proofs.Laws.Frames.{read-asked, read_done, read-refused}
use Rattle.cframes.proofs.read.Goals as goal

pub overflow_cast-head : goal.overflow_cast-head
overflow_cast-head c =
    let f = data-fits c.in-Ok-Data.f (read-asked c.args.frame.now c.args.head.now c.args.cells.now (Data c.in-Ok-Data.f) (rw c.in-Ok-Data.field-0-is at c.in-Ok-Data.ensures)) in
    omega arith

pub overflow_cast-head-in-Ok-Data : goal.overflow_cast-head-in-Ok-Data
overflow_cast-head-in-Ok-Data c =
    let f = data-fits c.in-Ok-Data.f (read-asked c.args.frame.now c.args.head.now c.args.cells.now (Data c.in-Ok-Data.f) (rw c.in-Ok-Data.field-0-is at c.in-Ok-Data.ensures)) in
    omega arith

pub overflow_cast-head-in-Ok-Reply : goal.overflow_cast-head-in-Ok-Reply
overflow_cast-head-in-Ok-Reply c =
    let f = reply-fits c.in-Ok-Reply.f (read-asked c.args.frame.now c.args.head.now c.args.cells.now (Reply c.in-Ok-Reply.f) (rw c.in-Ok-Reply.field-0-is at c.in-Ok-Reply.ensures)) in
    omega arith

pub overflow_cast-head-in-Ok-Reply-2 : goal.overflow_cast-head-in-Ok-Reply-2
overflow_cast-head-in-Ok-Reply-2 c =
    let f = reply-fits c.in-Ok-Reply.f (read-asked c.args.frame.now c.args.head.now c.args.cells.now (Reply c.in-Ok-Reply.f) (rw c.in-Ok-Reply.field-0-is at c.in-Ok-Reply.ensures)) in
    omega arith

pub overflow_cast-head-in-Ok-Reply-3 : goal.overflow_cast-head-in-Ok-Reply-3
overflow_cast-head-in-Ok-Reply-3 c =
    let f = reply-fits c.in-Ok-Reply.f (read-asked c.args.frame.now c.args.head.now c.args.cells.now (Reply c.in-Ok-Reply.f) (rw c.in-Ok-Reply.field-0-is at c.in-Ok-Reply.ensures)) in
    omega arith

pub returns-in-Ok-Data : goal.returns-in-Ok-Data
returns-in-Ok-Data c =
    let f = c.in-Ok-Data.f in
    read_done c.args.frame.now c.args.head.now c.args.cells.now (Data f) (rw c.in-Ok-Data.field-0-is at c.in-Ok-Data.ensures) _ _
    refl refl

pub returns-in-Ok-Reply : goal.returns-in-Ok-Reply
returns-in-Ok-Reply c =
    let f = c.in-Ok-Reply.f in
    read_done c.args.frame.now c.args.head.now c.args.cells.now (Reply f) (rw c.in-Ok-Reply.field-0-is at c.in-Ok-Reply.ensures) _ _
    refl refl

pub returns-in-Err : goal.returns-in-Err
returns-in-Err c = read-refused c.args.frame.now c.args.head.now c.args.cells.now c.in-Err.refusal _ c.in-Err.ensures.number c.from.ensures
