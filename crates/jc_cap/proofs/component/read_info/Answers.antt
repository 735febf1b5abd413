use Rattle.std.proofs.Common.{rules}
use Rattle.jc_cap.specs.ComponentViews.{head}
use Rattle.jc_cap.specs.MethodViews.{method_parts}
use Rattle.jc_cap.specs.StaticViews.{static_parts}
use Rattle.jc_cap.specs.Contents as contents
use Rattle.jc_cap.proofs.ReadAgain.{is_header, is_directory, is_applets, is_imports, is_pool, are_classes, are_methods, are_statics, is_exports}
use Rattle.jc_cap.proofs.Taken.{unused_says}
use Rattle.jc_cap.proofs.component.read_info.Goals as goal

pub returns-in_ok-read_header-in-1 : goal.returns-in_ok-read_header-in-1
returns-in_ok-read_header-in-1 c = rw c.in-1.is (is_header c.args.format c.args.info.now (head c.in_ok-read_header-in-1.field-0) c.in_ok-read_header-in-1.ensures.exact)

pub returns-in_ok-read_directory-in-2 : goal.returns-in_ok-read_directory-in-2
returns-in_ok-read_directory-in-2 c = rw c.in-2.is (is_directory c.args.format c.args.info.now c.in_ok-read_directory-in-2.field-0 c.in_ok-read_directory-in-2.ensures.exact)

pub returns-in_ok-read_applets-in-3 : goal.returns-in_ok-read_applets-in-3
returns-in_ok-read_applets-in-3 c = rw c.in-3.is (is_applets c.args.format c.args.info.now c.in_ok-read_applets-in-3.field-0 c.in_ok-read_applets-in-3.ensures.exact)

pub returns-in_ok-read_imports-in-4 : goal.returns-in_ok-read_imports-in-4
returns-in_ok-read_imports-in-4 c = rw c.in-4.is (is_imports c.args.format c.args.info.now c.in_ok-read_imports-in-4.field-0 c.in_ok-read_imports-in-4.ensures.exact)

pub returns-in_ok-read_pool-in-5 : goal.returns-in_ok-read_pool-in-5
returns-in_ok-read_pool-in-5 c = rw c.in-5.is (is_pool c.args.format c.args.info.now c.in_ok-read_pool-in-5.field-0 c.in_ok-read_pool-in-5.ensures.exact)

pub returns-in_ok-read_class-in-6 : goal.returns-in_ok-read_class-in-6
returns-in_ok-read_class-in-6 c = rw c.in-6.is (are_classes c.args.format c.args.info.now c.in_ok-read_class-in-6.field-0 c.in_ok-read_class-in-6.ensures.exact)

pub returns-in_ok-read_method-in-7 : goal.returns-in_ok-read_method-in-7
returns-in_ok-read_method-in-7 c = rw c.in-7.is (are_methods c.args.format c.args.info.now (method_parts c.in_ok-read_method-in-7.field-0) c.in_ok-read_method-in-7.ensures.exact)

pub returns-in_ok-read_static_field-in-8 : goal.returns-in_ok-read_static_field-in-8
returns-in_ok-read_static_field-in-8 c = rw c.in-8.is (are_statics c.args.format c.args.info.now (static_parts c.in_ok-read_static_field-in-8.field-0) c.in_ok-read_static_field-in-8.ensures.exact)

pub returns-in_ok-read_exports-in-10 : goal.returns-in_ok-read_exports-in-10
returns-in_ok-read_exports-in-10 c = rw c.in-10.is (is_exports c.args.format c.args.info.now c.in_ok-read_exports-in-10.field-0 c.in_ok-read_exports-in-10.ensures.exact)

pub returns-in_default : goal.returns-in_default
returns-in_default c = (contents.unused, unused_says c.args.format c.args.tag c.args.info.now (search rules))
